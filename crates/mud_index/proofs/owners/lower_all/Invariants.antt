use Rattle.std.proofs.Common.{◌≡◌, take, map}
use Rattle.std.specs.Prelude.{string_bytes}
use Rattle.std.specs.Str.{str_to_ascii_lowercase}
use Rattle.mud_index.specs.inner.Texts.{items_of}
use Rattle.mud_index.proofs.owners.lower_all.Given as goal

-- the texts so far are in lower case
abbrev pub invariant-loop-text : goal.invariant-loop-text
invariant-loop-text l =
    items_of l.lower.items ≡ map str_to_ascii_lowercase (map string_bytes (take l.text-index l.texts))

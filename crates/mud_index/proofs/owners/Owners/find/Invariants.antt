use Rattle.std.proofs.Common.{◌≡◌, map}
use Rattle.std.specs.Char.{to_ascii_lowercase}
use Rattle.mud_index.specs.Owners.{owner_of}
use Rattle.mud_index.specs.inner.Views.{seen_of}
use Rattle.mud_index.proofs.owners.Owners.find.Given as goal

-- the remaining entries give the result of the whole map
abbrev pub invariant-loop-name : goal.invariant-loop-name
invariant-loop-name l =
    owner_of l.self (map to_ascii_lowercase l.text)
    ≡ owner_of (seen_of l.name-iterator) (map to_ascii_lowercase l.text)

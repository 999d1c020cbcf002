use Rattle.std.proofs.Common.{◌≡◌, drop, map}
use Rattle.std.specs.Prelude.{bytes_eq}
use Rattle.std.specs.Char.{to_ascii_lowercase}
use Rattle.mud_index.proofs.owners.is_lower.Given as goal

-- the remaining bytes give the result of the whole text
abbrev pub invariant-loop-i : goal.invariant-loop-i
invariant-loop-i l =
    bytes_eq (map to_ascii_lowercase l.text) l.name
    ≡ bytes_eq (map to_ascii_lowercase (drop l.i l.text)) (drop l.i l.name)

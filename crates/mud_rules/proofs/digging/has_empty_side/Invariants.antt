use Rattle.std.proofs.Common.{◌≡◌, drop}
use Rattle.mud_rules.specs.Commands.{has_empty_side}
use Rattle.mud_rules.proofs.Sides.{empty_side}
use Rattle.mud_rules.proofs.digging.has_empty_side.Given as goal

-- the rest of the text gives the result of the whole
abbrev pub invariant-loop-byte : goal.invariant-loop-byte
invariant-loop-byte l = empty_side l.fresh (drop l.byte-index l.byte-items) ≡ has_empty_side l.text

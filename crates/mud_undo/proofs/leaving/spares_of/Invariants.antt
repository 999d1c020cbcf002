use Rattle.std.proofs.Common.{◌≡◌, ◌-◌}
use Rattle.std.specs.List.{flat_map, range_with_len}
use Rattle.mud_undo.specs.Without.{spare}
use Rattle.mud_undo.proofs.leaving.spares_of.Given as goal

-- the numbers so far are taken
abbrev pub invariant-loop-number : goal.invariant-loop-number
invariant-loop-number l = l.part.items ≡ flat_map spare (range_with_len l.first (l.number - l.first))

use Rattle.std.proofs.Common.{◌≡◌, ◌++◌, length}
use Rattle.std.specs.List.{flat_map}
use Rattle.mud_session.specs.inner.Wire.{on_wire}
use Rattle.mud_session.proofs.wiring.push_on_wire.Given as goal

-- the lines so far are sent, and the rest remains
abbrev pub invariant-loop-at : goal.invariant-loop-at
invariant-loop-at l = l.out.items ++ flat_map on_wire l.rest ≡ l.fn.out.items ++ flat_map on_wire l.text

abbrev pub decreases-loop-at : goal.decreases-loop-at
decreases-loop-at l = length l.rest

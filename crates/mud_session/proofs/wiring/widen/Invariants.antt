use Rattle.std.proofs.Common.{◌-◌, take}
use Rattle.std.specs.List.{flat_map}
use Rattle.mud_session.specs.inner.Wire.{on_wire}
use Rattle.mud_session.proofs.Widening.{IsWidened}
use Rattle.mud_session.proofs.wiring.widen.Given as goal

abbrev pub invariant-loop-done : goal.invariant-loop-done
invariant-loop-done l =
    IsWidened l.front (flat_map on_wire (take l.end l.fn.out)) (l.end - l.done) l.to l.out

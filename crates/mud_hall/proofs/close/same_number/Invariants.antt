use Rattle.std.proofs.Common.{take}
use Rattle.mud_hall.specs.Settlement.{HaveSameNumber}
use Rattle.mud_hall.specs.inner.CheckFaults.{IsLeast}
use Rattle.mud_hall.proofs.close.same_number.Given as goal

abbrev pub invariant-loop-j : goal.invariant-loop-j
invariant-loop-j g l = IsLeast (HaveSameNumber (take l.j l.desks)) l.least

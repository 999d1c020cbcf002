use Rattle.std.proofs.Common.{◌≡◌, take}
use Rattle.mud_hall.specs.inner.CheckFaults.{IsLeast, Differs}
use Rattle.mud_hall.proofs.close.first_difference.Given as goal

abbrev pub invariant-loop-desk : goal.invariant-loop-desk
invariant-loop-desk g l = record {
  same : l.new ≡ l.fn.new;
  least : IsLeast (Differs (take l.desk-index l.desks) l.first l.fn.new) l.least;
}

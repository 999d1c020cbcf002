use Rattle.std.proofs.Common.{arith}
use Rattle.mud_hall.proofs.kept.Kept.desk.Goals as goal

pub invariant_of-self : goal.invariant_of-self
invariant_of-self g c = record {
  few = omega (arith, c.if-self-ge-MOST_DESKS.false);
  row = c.self.invariant.row;
  list = c.self.invariant.list;
}

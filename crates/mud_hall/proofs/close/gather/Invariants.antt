use Rattle.std.proofs.Common.{◌≡◌, take}
use Rattle.mud_hall.specs.Settlement.{IsGathered}
use Rattle.mud_hall.proofs.close.gather.Given as goal

abbrev pub invariant-loop-i : goal.invariant-loop-i
invariant-loop-i g l = record {
  same : l.desks.items ≡ l.fn.desks.items;
  row : l.whole.row ≡ l.fn.whole.row;
  gathered : IsGathered l.fn.whole.list (take l.i l.fn.desks.items) l.whole.list;
}

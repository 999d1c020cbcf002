use Rattle.std.proofs.Common.{◌≡◌}
use Rattle.mud_hall.proofs.kept.take_some_in.Given as goal

abbrev pub invariant-loop : goal.invariant-loop
invariant-loop l = record {
  row : l.known.row ≡ l.fn.known.row;
  list : l.known.list ≡ l.fn.known.list;
}

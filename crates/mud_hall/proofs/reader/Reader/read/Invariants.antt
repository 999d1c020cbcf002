use Rattle.std.proofs.Common.{◌≡◌, ◌++◌}
use Rattle.mud_hall.proofs.reader.Reader.read.Given as goal

-- the entries read now follow those read before
abbrev pub invariant-loop : goal.invariant-loop
invariant-loop g l = record {
  row : l.self-inside.pass.row ≡ g.J.HallName.cells;
  list : l.self-inside.pass.list ≡ l.fn.self ++ l.all.items;
}

use Rattle.std.proofs.Common.{◌≡◌, ◌≤◌, ◌++◌, length}
use Rattle.mud_row.proofs.row.Row.fill.Given as goal

-- the known entries are extended by the entries so far
abbrev pub invariant-loop-entry : goal.invariant-loop-entry
invariant-loop-entry l = record {
  row : l.pass.row ≡ l.fn.pass.row;
  longer : length l.fn.pass.list ≤ length l.pass.list;
  list : l.pass.list ++ l.entry-iterator.rest.items ≡ l.fn.pass.list ++ l.fn.entries.items;
}

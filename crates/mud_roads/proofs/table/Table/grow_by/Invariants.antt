use Rattle.std.proofs.Common.{◌≡◌, ◌++◌, [], replicate}
use Rattle.mud_roads.proofs.table.Table.grow_by.Given as goal

abbrev pub invariant-loop : goal.invariant-loop
invariant-loop l = l.self ≡ l.initial.self ++ replicate l.counter []

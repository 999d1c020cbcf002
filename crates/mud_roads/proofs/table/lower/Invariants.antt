use Rattle.std.proofs.Common.{◌≡◌, ◌++◌, map, take, drop}
use Rattle.mud_roads.specs.inner.Tables.{end_without}
use Rattle.mud_roads.proofs.table.lower.Given as goal

abbrev pub invariant-loop-end : goal.invariant-loop-end
invariant-loop-end l =
    (l.ends ≡ map (end_without l.index) (take l.end-index l.initial.ends) ++ drop l.end-index l.initial.ends)

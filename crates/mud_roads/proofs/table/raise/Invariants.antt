use Rattle.std.proofs.Common.{◌≡◌, suc, ◌++◌, map, take, drop}
use Rattle.mud_roads.proofs.table.raise.Given as goal

abbrev pub invariant-loop-end : goal.invariant-loop-end
invariant-loop-end l =
    (l.ends ≡ map suc (take l.end-index l.initial.ends) ++ drop l.end-index l.initial.ends)

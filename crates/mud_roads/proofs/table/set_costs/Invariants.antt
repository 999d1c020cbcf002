use Rattle.std.proofs.Common.{◌≡◌, ◌++◌, map, take, drop}
use Rattle.mud_roads.specs.inner.Tables.{costing}
use Rattle.mud_roads.proofs.table.set_costs.Given as goal

abbrev pub invariant-loop-step : goal.invariant-loop-step
invariant-loop-step l =
    (l.steps ≡ map (costing l.exit l.cost) (take l.step-index l.initial.steps) ++ drop l.step-index l.initial.steps)

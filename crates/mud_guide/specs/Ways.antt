-- Ways: canonical routes with their costs.
use Rattle.std.specs.Prelude.{◌≡◌, ℕ, List, Option, None, Some}
use Rattle.mud_roads.specs.declared.label.Step.{Step}
pub use Rattle.mud_roads.specs.Walks.{exits_of}
use Rattle.mud_roads.specs.Walks.{Roads, total, NoWalk, IsRoute}

abbrev pub cost_of : List Step → ℕ
cost_of steps = (total 1 steps).cost

-- the canonical route to the room, or None if no walk leads there or there is no room to go to
abbrev pub IsWayTo : Roads → ℕ → Option ℕ → Option (List Step) → Type 0
IsWayTo roads from (Some to) (Some steps) = IsRoute 1 roads from to steps
IsWayTo roads from (Some to) None = NoWalk roads from to
IsWayTo roads from None way = way ≡ None

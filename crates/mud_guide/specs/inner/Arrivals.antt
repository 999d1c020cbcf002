-- The last step of a route, found from labels.
use Rattle.std.specs.Prelude.{◌≡◌, ℕ, ◌+◌, ◌≤◌, Bool, false, ◌==◌, ◌&&◌, Contains, Option, None, Some}
use Rattle.mud_roads.specs.declared.label.Label.{Label}
use Rattle.mud_roads.specs.declared.label.Step.{Step}
use Rattle.mud_roads.specs.Walks.{Roads, after, Least}
use Rattle.mud_guide.specs.declared.arrivals.Arrival.{Arrival}

-- each room's label is the least
abbrev pub Labelled : Roads → ℕ → (ℕ → Option Label) → Type 0
Labelled roads from labels = (room : ℕ) → Least 1 roads from room (labels room)

-- the step leads to the room, whose label is the label before it after the step
pub record Ends (roads : Roads) (labels : ℕ → Option Label) (to by : ℕ) (s : Step) : Type 0 where
  pub step : Contains (roads by) s
  pub leads : s.to ≡ to
  pub before : Label
  pub comes : labels by ≡ Some before
  pub is : labels to ≡ Some (after 1 before s)

-- the step ends a least walk to the room, and the step of no lower exit does; or there is no such step
abbrev pub IsLast : Roads → (ℕ → Option Label) → ℕ → Option Arrival → Type 0
IsLast roads labels to None = (by : ℕ) (s : Step) → Ends roads labels to by s → ⊥
IsLast roads labels to (Some a) =
    Ends roads labels to a.by a.step × ((by : ℕ) (s : Step) → Ends roads labels to by s → a.step.exit ≤ s.exit)

-- the step is that of the exit, and ends a least walk; or the exit ends none
abbrev pub IsBy : Roads → (ℕ → Option Label) → ℕ → Option Arrival → Type 0
IsBy roads labels exit None = (to by : ℕ) (s : Step) → s.exit ≡ exit → Ends roads labels to by s → ⊥
IsBy roads labels exit (Some a) = (a.step.exit ≡ exit) × Ends roads labels a.step.to a.by a.step

-- true if the label there is the label before it, after a step of this cost
abbrev pub ends : Label → ℕ → Option Label → Bool
ends l cost None = false
ends l cost (Some k) = (l.cost + cost == k.cost) && (l.exits + 1 == k.exits)

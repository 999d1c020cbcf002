-- The result of a search.
use Rattle.std.specs.Prelude.{◌≡◌, ℕ, ◌*◌, ◌<◌, ◌≤◌, List, All, AllPairs, Contains, Option, None, Some, slice_get}
use Rattle.mud_key.specs.declared.limits.TheConstants.{LAST_NUMBER}
use Rattle.mud_world.specs.declared.limits.TheConstants.{MOST_COST}
use Rattle.mud_world.specs.State.{State}
use Rattle.mud_roads.specs.declared.label.Label.{Label}
use Rattle.mud_roads.specs.Walks.{Least}
use Rattle.mud_roads.specs.Passable.{Knowledge, roads_of}
use Rattle.mud_search.specs.Tables.{Table, at}

-- the label of a member at a room; past the last member and room there is none
abbrev pub label_in : Table (Option Label) → ℕ → ℕ → Option Label
label_in labels m room = at None labels m room

-- each member's label of a room is that of a least walk there, or None if there is no walk
abbrev pub AreLeast : State → List Knowledge → (ℕ → ℕ → Option Label) → Type 0
AreLeast w ts labels =
    (m room : ℕ) (t : Knowledge) → slice_get ts m ≡ Some t → Least 1 (roads_of w t.player) t.place room (labels m room)

-- no label is greater than that of a walk through all rooms by exits of the greatest cost
abbrev pub AreBounded : (ℕ → ℕ → Option Label) → Type 0
AreBounded labels =
    (m room : ℕ) (l : Label) → labels m room ≡ Some l → (l.cost ≤ MOST_COST * LAST_NUMBER) × (l.exits ≤ LAST_NUMBER)

-- these are the labels of the numbers below `next` that have one, sorted by number
pub record AreLabelsBelow (labels : ℕ → Option Label) (next : ℕ) (found : List (ℕ × Label)) : Type 0 where
  pub rising : AllPairs (λ d e. d.0 < e.0) found
  pub inside : All (λ e. (e.0 < next) × (labels e.0 ≡ Some e.1)) found
  pub whole : (room : ℕ) (l : Label) → room < next → labels room ≡ Some l → Contains found (room, l)

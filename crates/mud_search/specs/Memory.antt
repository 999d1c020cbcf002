-- The layout of a frontier in memory.
use Rattle.std.specs.Prelude.{◌≡◌, ℕ, ◌≤◌}
use Rattle.std.specs.Prelude.{List, length, Some, slice_get}
use Rattle.mud_world.specs.declared.limits.TheConstants.{MOST_PARTY}
use Rattle.mud_world.specs.State.{State}
use Rattle.mud_world.specs.Sound.{IsSound}
use Rattle.mud_roads.specs.Passable.{Knowledge, roads_of}
use Rattle.mud_search.specs.declared.slot.Slot.{Slot}
use Rattle.mud_search.specs.inner.Boards.{board_of, IsBoardOf}

-- ---- the facts

-- the layout of a frontier in memory. A reader need not look into this: `Frontier::facts` states its consequences
pub record IsKept (w : State) (ts : List Knowledge) (boards : List (List Slot)) : Type 0 where
  pub sound : IsSound w
  pub count : length boards ≡ length ts
  pub few : length ts ≤ MOST_PARTY
  pub faithful : (m : ℕ) (t : Knowledge) → slice_get ts m ≡ Some t
      → IsBoardOf (roads_of w t.player) t.place w.next (board_of boards m)

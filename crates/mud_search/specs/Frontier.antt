-- The invariant of a search, for any sequence of calls.
use Rattle.std.specs.Prelude.{◌≡◌, ◌≢◌, ℕ, ◌<◌, ◌≤◌, List, Some, length, slice_get, Contains}
use Rattle.mud_world.specs.State.{State}
use Rattle.mud_world.specs.Sound.{IsSound}
use Rattle.mud_roads.specs.declared.label.Label.{Label}
use Rattle.mud_roads.specs.declared.label.Step.{Step}
use Rattle.mud_roads.specs.Walks.{Roads, Walk, after, total}
use Rattle.mud_roads.specs.Labels.{start_label, Reaches}
use Rattle.mud_roads.specs.Passable.{Knowledge, roads_of}
use Rattle.mud_search.specs.declared.slot.Slot.{Slot}
use Rattle.mud_search.specs.declared.slot.Slot.TheVariants.{Unknown, Finished}
use Rattle.mud_search.specs.Slots.{labels_of}
use Rattle.mud_world.specs.declared.limits.TheConstants.{MOST_PARTY}

-- every label is that of a walk; the start is labelled 0; a step out of a finished room leads to no greater label than
-- the one after the step
pub record IsFaithful (roads : Roads) (from : ℕ) (slots : ℕ → Slot) : Type 0 where
  pub walked : (room : ℕ) (l : Label) → labels_of slots room ≡ Some l
      → (ss : List Step) × Walk roads from ss room × (total 1 ss ≡ l)
  pub start : labels_of slots from ≡ Some start_label
  pub finished : (room : ℕ) (l : Label) (s : Step) → slots room ≡ Finished l → Contains (roads room) s
      → Reaches (labels_of slots) s.to (after 1 l s)

-- the world is sound, there are at most 8 members, only rooms are known, and each member's slots are faithful to its
-- roads
pub record IsFrontier (w : State) (ts : List Knowledge) (slots : ℕ → ℕ → Slot) : Type 0 where
  pub sound : IsSound w
  pub few : length ts ≤ MOST_PARTY
  pub inside : (m room : ℕ) → slots m room ≢ Unknown → (m < length ts) × (room < w.next)
  pub faithful : (m : ℕ) (t : Knowledge) → slice_get ts m ≡ Some t → IsFaithful (roads_of w t.player) t.place (slots m)

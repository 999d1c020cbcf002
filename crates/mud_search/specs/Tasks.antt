-- The effects of a frontier's calls on its slots.
use Rattle.std.specs.Prelude.{◌≡◌, ◌≢◌, ◌⊎◌, ℕ, ◌≤◌, List, Contains, Some, slice_get}
use Rattle.mud_roads.specs.declared.label.Label.{Label}
use Rattle.mud_roads.specs.declared.label.Step.{Step}
use Rattle.mud_roads.specs.Passable.{Knowledge}
use Rattle.mud_roads.specs.Walks.{AtMost, after}
use Rattle.mud_roads.specs.Labels.{start_label, Reaches}
use Rattle.mud_search.specs.declared.slot.Slot.{Slot}
use Rattle.mud_search.specs.declared.slot.Slot.TheVariants.{Unknown, Waiting, Finished}
use Rattle.mud_search.specs.declared.task.Task.{Task}
use Rattle.mud_search.specs.Slots.{labels_of}

-- each member's place waits with cost 0 and no exits, and no other room is known
pub record IsBegun (ts : List Knowledge) (slots : ℕ → ℕ → Slot) : Type 0 where
  pub place : (m : ℕ) (t : Knowledge) → slice_get ts m ≡ Some t → slots m t.place ≡ Waiting start_label
  pub others : (m room : ℕ) → ((t : Knowledge) → slice_get ts m ≡ Some t → room ≢ t.place) → slots m room ≡ Unknown

-- a member's room has this slot now, and all others are unchanged
pub record IsChanged (old new : ℕ → ℕ → Slot) (m room : ℕ) (v : Slot) : Type 0 where
  pub here : new m room ≡ v
  pub others : (n q : ℕ) → (n ≢ m) ⊎ (q ≢ room) → new n q ≡ old n q

-- the task's room waits with its label, the least; among equals it is that of the first member, then the lowest
pub record IsFirst (slots : ℕ → ℕ → Slot) (t : Task) : Type 0 where
  pub is_waiting : slots t.member t.room ≡ Waiting t.label
  pub before : (m r : ℕ) (l : Label) → slots m r ≡ Waiting l
      → AtMost t.label l × (t.label ≡ l → (t.member ≤ m) × (t.member ≡ m → t.room ≤ r))

-- a finished task: its room is finished; any other is unchanged, or waits with the lesser label of a step that leads
-- there
pub record IsDone (old new : ℕ → ℕ → Slot) (t : Task) (steps : List Step) : Type 0 where
  pub was : labels_of (old t.member) t.room ≡ Some t.label
  pub finished : new t.member t.room ≡ Finished t.label
  pub others : (m room : ℕ) → m ≢ t.member → new m room ≡ old m room
  pub fell : (room : ℕ) → room ≢ t.room
      → (new t.member room ≡ old t.member room)
      ⊎ ((s : Step) × Contains steps s × (s.to ≡ room) × (new t.member room ≡ Waiting (after 1 t.label s))
      × (Reaches (labels_of (old t.member)) room (after 1 t.label s) → ⊥))
  pub reached : (s : Step) → Contains steps s → Reaches (labels_of (new t.member)) s.to (after 1 t.label s)

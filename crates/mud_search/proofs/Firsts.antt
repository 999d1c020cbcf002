-- The first waiting room.
use Rattle.std.proofs.Common.{◌≡◌, ℕ, ◌<◌, ◌≤◌, List, [], length, Option, None, Some, inl, inr}
use Rattle.std.proofs.Common.{sym, ◌∙◌, ap, arith}
use Rattle.std.specs.Prelude.{IfSome, IfNone}
use Rattle.std.proofs.lemmas.Bool.{cases_lt}
use Rattle.std.proofs.lemmas.List.{get_or_past}
use Rattle.mud_roads.specs.declared.label.Label.{Label}
use Rattle.mud_search.specs.declared.slot.Slot.{Slot}
use Rattle.mud_search.specs.declared.slot.Slot.TheVariants.{Unknown, Waiting}
use Rattle.mud_search.specs.declared.task.Task.{Task}
use Rattle.mud_search.specs.inner.Boards.{slot_at, slot_of}
use Rattle.mud_search.specs.Tasks.{IsFirst}
use Rattle.mud_search.specs.inner.Order.{IsTaskBefore}

-- the task is the first one of the members so far; without one no room of theirs waits
abbrev pub BestSoFar : List (List Slot) → ℕ → Option Task → Type 0
BestSoFar boards n None = (m r : ℕ) (l : Label) → m < n → slot_of boards m r ≡ Waiting l → ⊥
BestSoFar boards n (Some t) =
    (t.member < n) × (slot_of boards t.member t.room ≡ Waiting t.label)
    × ((m r : ℕ) (l : Label) → m < n → slot_of boards m r ≡ Waiting l → IsTaskBefore t m r l)

-- a waiting room belongs to a member
pub waiting-member : (boards : List (List Slot)) (m r : ℕ) (l : Label) → slot_of boards m r ≡ Waiting l
    → m < length boards
waiting-member boards m r l e =
    elim (cases_lt m (length boards)) [
      | inl h ↦ h
      | inr past ↦
          let bad : Unknown ≡ Waiting l =
          sym (ap (λ (b : List Slot). slot_at b r) (get_or_past boards m [] past)) ∙ e in
          absurd (cc)
    ]

-- past the last member the best is the first of all
pub best-all-some : (boards : List (List Slot)) (n : ℕ) (best : Option Task)
    → length boards ≤ n → BestSoFar boards n best
    → IfSome best (λ t. IsFirst (slot_of boards) t)
best-all-some boards n None h b = tt
best-all-some boards n (Some t) h b = record {
  is_waiting = b.1;
  before = λ m r l e. b.2 m r l (omega (arith, waiting-member boards m r l e)) e;
}

pub best-all-none : (boards : List (List Slot)) (n : ℕ) (best : Option Task)
    → length boards ≤ n → BestSoFar boards n best
    → IfNone best ((m r : ℕ) (l : Label) → slot_of boards m r ≡ Waiting l → ⊥)
best-all-none boards n None h b = λ m r l e. b m r l (omega (arith, waiting-member boards m r l e)) e
best-all-none boards n (Some t) h b = tt

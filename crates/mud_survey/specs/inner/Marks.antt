-- Marks by number, and what is kept while rooms are marked.
use Rattle.std.specs.Prelude.{◌≡◌, ℕ, ◌+◌, ◌*◌, Bool, false, not, ◌⊎◌, ◌↔◌, List, Contains, Some, IsTrue}
use Rattle.std.specs.Prelude.{slice_index_or, length, count_by}
use Rattle.mud_world.specs.State.{State, passage_of}
use Rattle.mud_world.specs.declared.record.Passage.{Passage}
use Rattle.mud_roads.specs.Passable.{passable, roads_of}
use Rattle.mud_survey.specs.Ways.{IsLinked}

-- the mark of a number
abbrev pub mark_at : List Bool → ℕ → Bool
mark_at marks n = slice_index_or marks n false

-- exactly the numbers with this property are marked
abbrev pub Marks : (ℕ → Type 0) → List Bool → Type 0
Marks IsSo marks = (n : ℕ) → IsTrue (mark_at marks n) ↔ IsSo n

-- the exit is open to the player, and leads from the one room to the other
pub record IsOpen (w : State) (p x from to : ℕ) : Type 0 where
  pub passage : Passage
  pub is : passage_of w x ≡ Some passage
  pub source : passage.source ≡ from
  pub destination : passage.destination ≡ to
  pub passes : IsTrue (passable w p x)

-- the state while rooms are marked from #0 on, against the exits. Each marked room is linked to #0. If an open exit
-- leads to a marked room, its source is marked, or that room waits, or the exit is one of those that are left
pub record IsFlood (w : State) (p : ℕ) (marks : List Bool) (waiting left : List ℕ) : Type 0 where
  pub size : length marks ≡ w.next
  pub linked : (n : ℕ) → IsTrue (mark_at marks n) → IsLinked (roads_of w p) n 0
  pub start : IsTrue (mark_at marks 0)
  pub followed : (x from to : ℕ) → IsOpen w p x from to → IsTrue (mark_at marks to)
      → IsTrue (mark_at marks from) ⊎ Contains waiting to ⊎ Contains left x

-- rooms that may wait yet count twice, and those that wait once
abbrev pub work_left : List Bool → List ℕ → ℕ
work_left marks waiting = 2 * count_by not marks + length waiting

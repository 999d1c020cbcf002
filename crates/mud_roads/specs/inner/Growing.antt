-- The parts of following a change: the cost of an exit, an object that is gone, and the objects that are new.
use Rattle.std.specs.Prelude.{◌≡◌, ℕ, ◌+◌, ◌-◌, ◌<◌, Bool, false, not, ◌&&◌, nat_eq, List, [], ◌++◌, length, map}
use Rattle.std.specs.Prelude.{filter}
use Rattle.std.specs.Prelude.{slice_index_or, slice_set, if◌then◌else◌, Option, Some, None}
use Rattle.std.specs.Option.{option_map_or}
use Rattle.std.specs.List.{filter_map, range_with_len}
use Rattle.mud_world.specs.declared.change.Deed.{Deed}
use Rattle.mud_world.specs.declared.change.Deed.TheVariants.{Cost, Recycle}
use Rattle.mud_world.specs.State.{State, exists, is_number, passage_of, source_of, unlocked}
use Rattle.mud_roads.specs.declared.label.Step.{Step}
use Rattle.mud_roads.specs.Passable.{Knowledge, keeps_locks, tested_step}
use Rattle.mud_roads.specs.inner.Tables.{costing}

-- the traveller after a deed: it is no longer current if the deed may open or close something
abbrev pub heeding : Deed → Knowledge → Knowledge
heeding d t = record t { current = t.current && keeps_locks d }

-- the traveller in this place, if there is one, with the knowledge that it has
abbrev pub moved_to : Knowledge → Option ℕ → Knowledge
moved_to t (Some place) = record t { place = place }
moved_to t None = t

-- the traveller without the mark and the steps of object n
abbrev pub forgetting : ℕ → Knowledge → Knowledge
forgetting n t =
    record t { marks = slice_set t.marks n false; rows = map (filter (λ s. not (nat_eq n s.exit))) t.rows }

-- a deed that sets the cost of an exit gives its steps the cost that it has in the world, and one that removes an
-- object takes its mark and its steps
abbrev pub adjusted : State → Deed → Knowledge → Knowledge
adjusted w (Cost exit cost) t =
    option_map_or (λ a. record t { rows = map (map (costing exit a.cost)) t.rows }) (passage_of w exit) t
adjusted w (Recycle object) t = if exists w object then t else forgetting object t
adjusted w deed t = t

-- the step of exit x, if x and its destination pass a test, and x leaves the room
abbrev pub step_from : State → (ℕ → Bool) → ℕ → ℕ → Option Step
step_from w test room x = if is_number room (source_of w x) then tested_step w test x else None

-- the numbers that the world has given from this one on
abbrev pub numbers_from : State → ℕ → List ℕ
numbers_from w low = range_with_len low (w.next - low)

-- the object has a mark
abbrev pub is_marked : List Bool → ℕ → Bool
is_marked marks n = slice_index_or marks n false

-- the knowledge t' is that of t and, from the first number without a mark on, that of the world
pub record IsGrown (w : State) (t t' : Knowledge) : Type 0 where
  pub player : t'.player ≡ t.player
  pub place : t'.place ≡ t.place
  pub current : t'.current ≡ t.current
  pub marks : t'.marks ≡ t.marks ++ map (unlocked w t.player) (numbers_from w (length t.marks))
  pub lined : length t'.rows ≡ length t.rows + (w.next - length t.marks)
  pub rows : (room : ℕ) → room < length t'.rows
      → slice_index_or t'.rows room []
      ≡ slice_index_or t.rows room []
      ++ filter_map (step_from w (is_marked t'.marks) room) (numbers_from w (length t.marks))

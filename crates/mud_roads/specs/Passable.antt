-- The exits that are open to a player of a world.
use Rattle.std.specs.Prelude.{◌≡◌, refl, ℕ, Bool, true, false, ◌&&◌, List, [], length, Some, IsTrue, slice_index_or}
use Rattle.std.specs.Prelude.{if◌then◌else◌, Option, None}
use Rattle.std.specs.Option.{option_map, option_map_or}
use Rattle.std.specs.List.{filter_map}
use Rattle.std.specs.Coded.{Coded, code_by, coded×, coded_ℕ, coded_bool, coded_list}
use Rattle.mud_world.specs.declared.record.Passage.{Passage}
use Rattle.mud_world.specs.KeyIndex.{IsKeyIndex}
use Rattle.mud_world.specs.State.{State, is_player, place_of, passage_of, leaving_of, unlocked}
use Rattle.mud_world.specs.declared.change.Deed.{Deed}
use Rattle.mud_world.specs.declared.change.Deed.TheVariants.{Lock, Unlock, Move, Recycle}
use Rattle.mud_roads.specs.declared.label.Step.{Step}
use Rattle.mud_roads.specs.contracts.label.Step as step
use Rattle.mud_roads.specs.Walks.{Roads}

-- x is an exit, and x and its destination are unlocked for p
abbrev pub passable : State → ℕ → ℕ → Bool
passable w p x = option_map_or (λ a. unlocked w p x && unlocked w p a.destination) (passage_of w x) false

-- the step of exit x, given its ends and cost
abbrev pub step_by : ℕ → Passage → Step
step_by x a = record { exit = x; to = a.destination; cost = a.cost }

-- the step of exit x, if it is open to p
abbrev pub open_step : State → ℕ → ℕ → Option Step
open_step w p x = if passable w p x then option_map (step_by x) (passage_of w x) else None

-- the step of exit x, if x and its destination pass a test
abbrev pub tested_step : State → (ℕ → Bool) → ℕ → Option Step
tested_step w test x =
    if option_map_or (λ a. test x && test a.destination) (passage_of w x) false
    then option_map (step_by x) (passage_of w x) else None

-- the roads by such exits
abbrev pub tested_roads : State → (ℕ → Bool) → Roads
tested_roads w test room = filter_map (tested_step w test) (leaving_of w room)

-- p's roads. A reader need not look into this: the law `laws::roads` states their steps and the order
unfoldable pub roads_of : State → ℕ → Roads
roads_of w p room = filter_map (open_step w p) (leaving_of w room)

-- the knowledge of a traveller: the player, its place, whether its marks are those of its world, the index of that
-- world's keys, the objects unlocked for it, and the open steps of each room
pub record Knowledge : Type 0 where
  pub player : ℕ
  pub place : ℕ
  pub current : Bool
  pub keys : List Bool × List ℕ
  pub marks : List Bool
  pub rows : List (List Step)

-- the data in memory, by number: whether each object is unlocked, and the open steps of each room
abbrev pub knowledge_of : ℕ → ℕ → Bool → List Bool × List ℕ → List Bool → List (List Step) → Knowledge
knowledge_of player place current keys marks rows =
    record { player = player; place = place; current = current; keys = keys; marks = marks; rows = rows }

-- the record encoded as the tuple of its fields
abbrev pub knowledge_code : Coded Knowledge
knowledge_code =
    code_by ((ℕ × (ℕ × Bool)) × ((List Bool × List ℕ) × (List Bool × List (List Step))))
    (coded× (coded× coded_ℕ (coded× coded_ℕ coded_bool))
    (coded× (coded× (coded_list coded_bool) (coded_list coded_ℕ))
    (coded× (coded_list coded_bool) (coded_list (coded_list step.the_row.coded)))))
    (λ t. ((t.player, (t.place, t.current)), (t.keys, (t.marks, t.rows))))
    (λ p. knowledge_of p.0.0 p.0.1.0 p.0.1.1 p.1.0 p.1.1.0 p.1.1.1) (λ _. refl)

-- true if the traveller knows that the object is unlocked
abbrev pub knows_unlocked : Knowledge → ℕ → Bool
knows_unlocked t n = slice_index_or t.marks n false

-- the roads that the traveller knows
abbrev pub known_roads : Knowledge → Roads
known_roads t room = slice_index_or t.rows room []

-- true for a change that opens and closes none of the exits and rooms that were there
abbrev pub keeps_locks : Deed → Bool
keeps_locks (Lock object key) = false
keeps_locks (Unlock object) = false
keeps_locks (Move thing to) = false
keeps_locks (Recycle object) = false
keeps_locks deed = true

-- the traveller is a player of this world, and its knowledge is true there. It has a mark and a row for each number
-- that was given
pub record IsTraveller (w : State) (t : Knowledge) : Type 0 where
  pub player : IsTrue (is_player w t.player)
  pub place : place_of w t.player ≡ Some t.place
  pub marked : length t.marks ≡ w.next
  pub marks : (n : ℕ) → knows_unlocked t n ≡ unlocked w t.player n
  pub lined : length t.rows ≡ w.next
  pub roads : (room : ℕ) → known_roads t room ≡ roads_of w t.player room

-- the traveller is a player of this world. Its rows are those of the exits that its marks open; if it is current, its
-- marks are true there
pub record IsDrawn (w : State) (t : Knowledge) : Type 0 where
  pub player : IsTrue (is_player w t.player)
  pub place : place_of w t.player ≡ Some t.place
  pub marked : length t.marks ≡ w.next
  pub lined : length t.rows ≡ w.next
  pub drawn : (room : ℕ) → known_roads t room ≡ tested_roads w (knows_unlocked t) room
  pub current : IsTrue t.current → (n : ℕ) → knows_unlocked t n ≡ unlocked w t.player n

-- and it has the index of that world's keys
pub record IsFollower (w : State) (t : Knowledge) : Type 0 where
  pub drawing : IsDrawn w t
  pub keys : IsKeyIndex w t.keys

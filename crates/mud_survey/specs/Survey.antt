-- The findings of a survey in a world for some players.
use Rattle.std.specs.Prelude.{◌≡◌, ℕ, ◌<◌, ◌⊎◌, ◌↔◌, false, List, All, Any, AllPairs, Contains, Some, IsTrue}
use Rattle.mud_key.specs.Tree.{Tree, atoms_of}
use Rattle.mud_world.specs.State.{State, exists, is_room, is_exit, is_thing, passage_of, key_of}
use Rattle.mud_world.specs.declared.record.Passage.{Passage}
use Rattle.mud_roads.specs.Walks.{NoWalk}
use Rattle.mud_roads.specs.Passable.{roads_of}
use Rattle.mud_survey.specs.declared.survey.Stranded.{Stranded}
use Rattle.mud_survey.specs.declared.survey.Survey.{Survey}
use Rattle.mud_survey.specs.Ways.{Comes, Passes, Gets}

-- exactly the values with this property, each once, in order
pub record Lists {A : Type 0} (IsBefore : A → A → Type 0) (IsSo : A → Type 0) (found : List A) : Type 0 where
  pub exact : (a : A) → Contains found a ↔ IsSo a
  pub ordered : AllPairs IsBefore found

-- none of the players
abbrev pub NoneOf : List ℕ → (ℕ → Type 0) → Type 0
NoneOf ps Does = All (λ p. Does p → ⊥) ps

-- a room to which nobody comes
abbrev pub IsUnreached : State → List ℕ → ℕ → Type 0
IsUnreached w ps room = IsTrue (is_room w room) × NoneOf ps (λ p. Comes w p room)

-- an exit through which nobody goes
abbrev pub IsUnpassed : State → List ℕ → ℕ → Type 0
IsUnpassed w ps x = IsTrue (is_exit w x) × NoneOf ps (λ p. Passes w p x)

-- an exit without an exit back, open or not
abbrev pub IsOneWay : State → ℕ → Type 0
IsOneWay w x =
    (a : Passage) × (passage_of w x ≡ Some a)
    × ((y : ℕ) (b : Passage) → passage_of w y ≡ Some b → b.source ≡ a.destination → b.destination ≡ a.source → ⊥)

-- a player of the survey comes to the room, and no walk of that player leads from there to #0
abbrev pub IsStranded : State → List ℕ → Stranded → Type 0
IsStranded w ps s = Contains ps s.player × Comes w s.player s.room × NoWalk (roads_of w s.player) s.room 0

-- an object with a key that names what is gone
abbrev pub NamesGone : State → ℕ → Type 0
NamesGone w o = (k : Tree ℕ) × (key_of w o ≡ Some k) × Any (λ a. exists w a ≡ false) (atoms_of k)

-- a thing that nobody gets
abbrev pub IsOutOfReach : State → List ℕ → ℕ → Type 0
IsOutOfReach w ps thing = IsTrue (is_thing w thing) × NoneOf ps (λ p. Gets w p thing)

-- by rising number of the player, and then of the room
abbrev pub IsStrandedBefore : Stranded → Stranded → Type 0
IsStrandedBefore s t = (s.player < t.player) ⊎ ((s.player ≡ t.player) × (s.room < t.room))

-- all that is found for these players
pub record IsSurvey (w : State) (ps : List ℕ) (s : Survey) : Type 0 where
  pub rooms : Lists ◌<◌ (IsUnreached w ps) s.rooms.items
  pub exits : Lists ◌<◌ (IsUnpassed w ps) s.exits.items
  pub one_way : Lists ◌<◌ (IsOneWay w) s.one_way.items
  pub no_way_back : Lists IsStrandedBefore (IsStranded w ps) s.no_way_back.items
  pub keys : Lists ◌<◌ (NamesGone w) s.keys.items
  pub things : Lists ◌<◌ (IsOutOfReach w ps) s.things.items

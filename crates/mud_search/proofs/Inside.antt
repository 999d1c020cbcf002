-- The roads of a sound world lead to its rooms.
use Rattle.std.proofs.Common.{◌≡◌, ℕ, ◌<◌, ◌≤◌, List, length, get_or, sym, subst}
use Rattle.std.specs.Prelude.{All, Contains}
use Rattle.std.proofs.lemmas.List.Elements.{All-get_or}
use Rattle.mud_world.specs.declared.limits.TheConstants.{MOST_COST}
use Rattle.mud_world.specs.State.{State}
use Rattle.mud_world.specs.Sound.{IsSound}
use Rattle.mud_roads.specs.declared.label.Step.{Step}
use Rattle.mud_roads.specs.Walks.{Roads}
use Rattle.mud_roads.specs.Passable.{Knowledge, IsTraveller, roads_of}
use Rattle.mud_roads.proofs.Roads.{steps-inside, traveller-below}

-- each step leads to a room, at a cost within the limit
abbrev pub AreWithin : Roads → ℕ → Type 0
AreWithin roads rooms = (room : ℕ) (s : Step) → Contains (roads room) s → (s.to < rooms) × (s.cost ≤ MOST_COST)

-- the roads of a sound world do
pub world-within : (w : State) (t : Knowledge) → IsSound w → AreWithin (roads_of w t.player) w.next
world-within w t sound room s c = steps-inside w sound t.player room s c

-- a traveller's place is one of the rooms
pub place-within : (w : State) (t : Knowledge) → IsSound w → IsTraveller w t → t.place < w.next
place-within w t sound is = traveller-below w sound t is

-- a member's place is one of the rooms
pub member-within : (w : State) (ts : List Knowledge) → IsSound w → All (IsTraveller w) ts
    → (i : ℕ) (t : Knowledge) → i < length ts → t ≡ get_or ts i t → t.place < w.next
member-within w ts sound these i t h is =
    place-within w t sound (subst (IsTraveller w) (sym is) (All-get_or (IsTraveller w) ts i t h these))

-- Laws of the definitions.
use Rattle.std.specs.Prelude.{◌≡◌, ℕ, List, [], ◌∷◌, Option, Some, None, IsTrue}
use Rattle.mud_world.specs.declared.change.Deed.TheVariants.{Walk as WalkDeed}
use Rattle.mud_world.specs.State.{State, place_of, passage_of}
use Rattle.mud_world.specs.Sound.{IsSound}
use Rattle.mud_world.specs.Legal.{refusal, after as world_after}
use Rattle.mud_roads.specs.declared.label.Label.{Label}
use Rattle.mud_roads.specs.declared.label.Step.{Step}
use Rattle.mud_roads.specs.Walks.{Roads, Walk, total, IsLeast, NoWalk, Least, IsRoute, Goer, HasLeast, IsMeeting}
use Rattle.mud_roads.specs.Walks.{Gathers}
use Rattle.mud_roads.specs.Labels.{AreValid}
use Rattle.mud_roads.specs.Passable.{passable, roads_of}

-- at most one element satisfies P
abbrev pub IsOne : {A : Type 0} → (A → Type 0) → Type 0
IsOne {A} IsSo = (a b : A) → IsSo a → IsSo b → a ≡ b

-- a room with a least label has one whatever an exit counts, at the same cost
abbrev pub LeastIsAlike : Type 0
LeastIsAlike =
    (hop hop' : ℕ) (roads : Roads) (from to : ℕ) (l : Label) → IsLeast hop roads from to l
    → (l' : Label) × IsLeast hop' roads from to l' × (l'.cost ≡ l.cost)

-- with valid labels, a walk whose label is that of its end is a least walk, and no walk leads to a room without a label
abbrev pub ValidIsLeast : Type 0
ValidIsLeast =
    (hop : ℕ) (roads : Roads) (from : ℕ) (labels : ℕ → Option Label) → AreValid hop roads from labels
    → ((to : ℕ) (ss : List Step) → Walk roads from ss to → labels to ≡ Some (total hop ss)
    → IsLeast hop roads from to (total hop ss))
    × ((to : ℕ) → labels to ≡ None → NoWalk roads from to)

-- least labels are valid
abbrev pub LeastIsValid : Type 0
LeastIsValid =
    (hop : ℕ) (roads : Roads) (from : ℕ) (labels : ℕ → Option Label)
    → ((room : ℕ) → Least hop roads from room (labels room)) → AreValid hop roads from labels

-- the step is that of an exit that leaves the room and is open to p
abbrev pub IsRoad : State → ℕ → ℕ → Step → Type 0
IsRoad w p room s =
    (passage_of w s.exit ≡ Some (record { source = room; destination = s.to; cost = s.cost }))
    × IsTrue (passable w p s.exit)

-- p's walks through these exits are legal changes, one after another, that lead to a room
abbrev pub IsWalked : State → ℕ → List Step → ℕ → Type 0
IsWalked w p [] to = place_of w p ≡ Some to
IsWalked w p (s ∷ ss) to =
    (refusal w (record { actor = p; deed = WalkDeed s.exit }) ≡ None)
    × IsWalked (world_after w (record { actor = p; deed = WalkDeed s.exit })) p ss to

-- a room has one canonical route
abbrev pub RouteIsOne : Type 0
RouteIsOne = (w : State) → IsSound w → (p from to : ℕ) → IsOne (IsRoute 1 (roads_of w p) from to)

-- a party has one meeting room, at one cost
abbrev pub MeetingIsOne : Type 0
MeetingIsOne =
    (hop : ℕ) (party : List Goer) (r c r' c' : ℕ) → IsMeeting (HasLeast hop) party r c
    → IsMeeting (HasLeast hop) party r' c' → (r ≡ r') × (c ≡ c')

-- the meeting room and its cost do not depend on what an exit counts, and neither does that there is none
abbrev pub MeetingIsAlike : Type 0
MeetingIsAlike =
    (hop hop' : ℕ) (party : List Goer)
    → ((room cost : ℕ) → IsMeeting (HasLeast hop) party room cost → IsMeeting (HasLeast hop') party room cost)
    × (((room cost : ℕ) → Gathers (HasLeast hop) party room cost → ⊥)
    → (room cost : ℕ) → Gathers (HasLeast hop') party room cost → ⊥)

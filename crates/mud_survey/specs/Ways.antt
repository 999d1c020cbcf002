-- Where players come, what they pass, and what they get.
use Rattle.std.specs.Prelude.{◌≡◌, ℕ, ◌<◌, ◌⊎◌, List, Some, IsTrue}
use Rattle.std.proofs.Common.{suc}
use Rattle.mud_world.specs.State.{State, place_of, source_of, follow, is_thing}
use Rattle.mud_roads.specs.declared.label.Step.{Step}
use Rattle.mud_roads.specs.Walks.{Roads, Walk}
use Rattle.mud_roads.specs.Passable.{passable, roads_of}

-- a walk leads from the one room to the other
abbrev pub IsLinked : Roads → ℕ → ℕ → Type 0
IsLinked roads from to = (ss : List Step) × Walk roads from ss to

-- a walk of the player leads to the room
abbrev pub Comes : State → ℕ → ℕ → Type 0
Comes w p room = (from : ℕ) × (place_of w p ≡ Some from) × IsLinked (roads_of w p) from room

-- the player comes to the room that the exit leaves, and the exit is open to the player
abbrev pub Passes : State → ℕ → ℕ → Type 0
Passes w p x = (room : ℕ) × (source_of w x ≡ Some room) × Comes w p room × IsTrue (passable w p x)

-- the room or the player that has the thing, with all things in which it lies
pub record IsHeldBy (w : State) (thing holder : ℕ) : Type 0 where
  pub passed : ℕ
  pub leads : follow w (suc passed) thing ≡ Some holder
  pub things : (k q : ℕ) → k < passed → follow w (suc k) thing ≡ Some q → IsTrue (is_thing w q)

-- the player has the thing, or comes to the room where it lies
abbrev pub Gets : State → ℕ → ℕ → Type 0
Gets w p thing = (holder : ℕ) × IsHeldBy w thing holder × ((holder ≡ p) ⊎ Comes w p holder)

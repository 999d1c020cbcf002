-- Legs: the parts of an answer, one for each player.
use Rattle.std.specs.Prelude.{◌≡◌, ℕ, List, map, Option, Some}
use Rattle.mud_world.specs.State.{State, place_of}
use Rattle.mud_roads.specs.declared.label.Step.{Step}
use Rattle.mud_roads.specs.Walks.{Goer}
use Rattle.mud_roads.specs.Passable.{roads_of}
use Rattle.mud_guide.specs.Ways.{IsWayTo}

-- a player, the room where it starts, and its way; None if no walk leads to the target, or if there is no target
pub record Leg : Type 0 where
  pub player : ℕ
  pub from : ℕ
  pub way : Option (List Step)

-- the leg of player p: from its place, by its way to the room
pub record IsLeg (w : State) (to : Option ℕ) (p : ℕ) (j : Leg) : Type 0 where
  pub player : j.player ≡ p
  pub from : place_of w p ≡ Some j.from
  pub way : IsWayTo (roads_of w p) j.from to j.way

-- the players of these legs as travellers
abbrev pub goers_of : State → List Leg → List Goer
goers_of w legs = map (λ j. (roads_of w j.player, j.from)) legs

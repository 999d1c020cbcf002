-- The claims of a certificate about a member.
use Rattle.std.specs.Prelude.{◌≡◌, ℕ, ◌<◌, ◌↔◌, List, AllPairs, Contains}
use Rattle.std.specs.Option.{option_map}
use Rattle.mud_world.specs.State.{State}
use Rattle.mud_roads.specs.declared.label.Label.{Label}
use Rattle.mud_roads.specs.Walks.{Roads, IsLeast}
use Rattle.mud_roads.specs.Passable.{roads_of}
use Rattle.mud_cert.specs.Certificate.{Account}
use Rattle.mud_guide.specs.Legs.{Leg}
use Rattle.mud_guide.specs.Ways.{exits_of}

-- the least label of every room that has one, sorted by number
pub record AreLeastLabels (roads : Roads) (from : ℕ) (entries : List (ℕ × Label)) : Type 0 where
  pub rising : AllPairs (λ d e. d.0 < e.0) entries
  pub least : (room : ℕ) (l : Label) → Contains entries (room, l) ↔ IsLeast 1 roads from room l

-- the player of the leg, its start, and the exits of its way
pub record IsMemberFor (j : Leg) (a : Account) : Type 0 where
  pub player : a.player ≡ j.player
  pub from : a.from ≡ j.from
  pub walk : a.walk ≡ option_map exits_of j.way

-- the player of the leg, with its least labels
pub record IsAccountOf (w : State) (j : Leg) (a : Account) : Type 0 where
  pub goes : IsMemberFor j a
  pub labels : AreLeastLabels (roads_of w j.player) j.from a.labels

-- The model of a session.
use Rattle.std.specs.Prelude.{ℕ, Bool, List}
use Rattle.mud_nvt.specs.Held.{Held}
use Rattle.mud_hall.specs.Desk.{DeskState}

-- a session: its terminal, whether it has ended, and its output
pub record SessionState : Type 0 where
  pub terminal : Held
  pub has_ended : Bool
  pub out : List ℕ

-- a door: the capacity of the history, its desk, and the pending notices of seen entries
pub record DoorState : Type 0 where
  pub capacity : ℕ
  pub desk : DeskState
  pub pending : List (List ℕ)

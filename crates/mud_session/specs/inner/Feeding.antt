-- The input so far, and its effect on a session.
use Rattle.std.specs.Prelude.{◌≡◌, ℕ, false, List, [], ◌++◌}
use Rattle.mud_nvt.specs.Units.{Given, units}
use Rattle.mud_nvt.specs.History.{StandsAfter}
use Rattle.mud_session.specs.State.{SessionState, DoorState}
use Rattle.mud_session.specs.Session.{TakingIn, Play, is_over, text_of}

-- each of these units had its turn, up to the last one, and their output can be taken out
pub record SoFar (T : TakingIn) (units : List Given) (old new : SessionState) (old_door new_door : DoorState)
    : Type 0 where
  pub play : Play T old_door.capacity old_door.desk units new_door.desk
  pub capacity : new_door.capacity ≡ old_door.capacity
  pub ended : new.has_ended ≡ is_over play.turns
  pub all : new.has_ended ≡ false → play.left ≡ []
  pub out : new.out ≡ old.out ++ text_of play.turns

-- after the earlier bytes the session consumed these, and the units that they add had their turns
pub record Fed (T : TakingIn) (earlier bytes : List ℕ) (old new : SessionState) (old_door new_door : DoorState)
    : Type 0 where
  pub stands : StandsAfter new.terminal (earlier ++ bytes)
  pub fresh : List Given
  pub units : units (earlier ++ bytes) ≡ units earlier ++ fresh
  pub so_far : SoFar T fresh old new old_door new_door

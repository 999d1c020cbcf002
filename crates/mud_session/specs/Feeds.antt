-- The effect of input and of a nudge on a session.
use Rattle.std.specs.Prelude.{◌≡◌, ℕ, false, List, [], ◌++◌}
use Rattle.std.specs.List.{flat_map}
use Rattle.mud_nvt.specs.Units.{Given, units}
use Rattle.mud_nvt.specs.History.{StandsAfter}
use Rattle.mud_session.specs.State.{SessionState, DoorState}
use Rattle.mud_session.specs.Session.{TakingIn, Looks, Does, Play, is_over, wire_text, text_of}

-- after the earlier bytes the session consumes these: the units that they add have their turns, up to the last reply
pub record Feeds (takes_in : TakingIn) (earlier bytes : List ℕ) (old new : SessionState)
    (old_door new_door : DoorState) : Type 0 where
  pub stands : StandsAfter new.terminal (earlier ++ bytes)
  pub fresh : List Given
  pub units : units (earlier ++ bytes) ≡ units earlier ++ fresh
  pub play : Play takes_in old_door.capacity old_door.desk fresh new_door.desk
  pub goes_on : old.has_ended ≡ false
  pub ended : new.has_ended ≡ is_over play.turns
  pub all : new.has_ended ≡ false → play.left ≡ []
  pub out : new.out ≡ old.out ++ text_of play.turns

-- a turn without a unit, in which the session looks for changes of others: the notices are added to the output
pub record Nudges (takes_in : TakingIn) (old new : SessionState) (old_door new_door : DoorState) : Type 0 where
  pub lines : List (List ℕ)
  pub looks : Does takes_in old_door.capacity old_door.desk Looks lines new_door.desk
  pub goes_on : old.has_ended ≡ false
  pub is : new ≡ record old { out = old.out ++ flat_map wire_text lines }

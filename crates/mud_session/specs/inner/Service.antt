-- The output of a script for some bytes.
use Rattle.std.specs.Prelude.{◌≡◌, ℕ, List, [], ◌++◌, Option, take}
use Rattle.std.specs.Io.KnownBytes.{Appends}
use Rattle.mud_io.specs.Streams.{Reader, Writer}
use Rattle.mud_nvt.specs.Units.{Given, units}
use Rattle.mud_hall.specs.Desk.{DeskState}
use Rattle.mud_session.specs.State.{SessionState, DoorState}
use Rattle.mud_session.specs.Session.{TakingIn, Play, text_of}
use Rattle.mud_session.specs.Feeds.{Feeds}
use Rattle.mud_session.specs.Script.{IsWhole}

-- the session was fed, and its output was written
pub record Serves (takes_in : TakingIn) (earlier bytes : List ℕ) (old new : SessionState)
    (old_door new_door : DoorState) (held now_held : Option (List ℕ)) : Type 0 where
  pub said : List ℕ
  pub feeds : Feeds takes_in earlier bytes old (record new { out = said }) old_door new_door
  pub written : Appends held now_held (text_of feeds.play.turns)
  pub out : new.out ≡ []
  pub capacity : new_door.capacity ≡ old_door.capacity

-- a prefix of the output for some of them was written
pub record ServesInPart (takes_in : TakingIn) (earlier bytes : List ℕ) (old_door : DoorState)
    (held now_held : Option (List ℕ)) : Type 0 where
  pub fresh : List Given
  pub units : units (earlier ++ bytes) ≡ units earlier ++ fresh
  pub desk : DeskState
  pub play : Play takes_in old_door.capacity old_door.desk fresh desk
  pub count : ℕ
  pub written : Appends held now_held (take count (text_of play.turns))

-- a whole script, and its desk at the end
pub record IsWholeAt (takes_in : TakingIn) (capacity : ℕ) (start : DeskState) (reader read : Reader)
    (writer written : Writer) (desk : DeskState) : Type 0 where
  pub whole : IsWhole takes_in capacity start reader read writer written
  pub desk_is : whole.script.desk ≡ desk

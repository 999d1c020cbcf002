-- A history that is legal so far, with its world.
use Rattle.std.specs.Prelude.{◌≡◌, List}
use Rattle.mud_world.specs.State.{State}
use Rattle.mud_world.specs.History.{world_of}
use Rattle.mud_chron.specs.Entry.{Entry}
use Rattle.mud_chron.specs.Replay.{changes_of, AreLegal}

-- all changes are legal, and lead to this world
pub record IsBuilt (entries : List Entry) (w : State) : Type 0 where
  pub legal : AreLegal (changes_of entries)
  pub world : w ≡ world_of (changes_of entries)

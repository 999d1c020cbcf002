-- The results of the parts of `shorten`. Shorter defines a shorter history of the same world.
use Rattle.std.specs.Prelude.{◌≡◌, ◌≤◌, ◌<◌, false, List, length}
use Rattle.mud_world.specs.State.{State}
use Rattle.mud_world.specs.History.{world_of}
use Rattle.mud_chron.specs.Entry.{Entry}
use Rattle.mud_chron.specs.Replay.{changes_of, AreLegal}
use Rattle.mud_compact.specs.Shorter.{without_talk, has_talk, LeadsToSame}

-- the entries without their talk: there are no more of them, and if the entries are legal, these lead to the same world
pub record IsQuiet (entries quiet : List Entry) : Type 0 where
  pub is : quiet ≡ without_talk entries
  pub silent : has_talk quiet ≡ false
  pub no_longer : length quiet ≤ length entries
  pub same : AreLegal (changes_of entries) → LeadsToSame entries quiet

-- the entries are legal, and this is their world
pub record LeadsTo (entries : List Entry) (w : State) : Type 0 where
  pub legal : AreLegal (changes_of entries)
  pub world : world_of (changes_of entries) ≡ w

-- fewer entries without talk that are legal and lead to this world
pub record IsShorter (entries : List Entry) (w : State) (shorter : List Entry) : Type 0 where
  pub leads : LeadsTo shorter w
  pub fewer : length shorter < length entries
  pub silent : has_talk shorter ≡ false

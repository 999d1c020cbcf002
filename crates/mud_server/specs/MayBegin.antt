-- The possible beginnings of a server's next volume.
use Rattle.std.specs.Prelude.{◌≤◌, List, length}
use Rattle.mud_chron.specs.Entry.{Entry}
use Rattle.mud_compact.specs.Shorter.{LeadsToSame}

-- the next volume may begin with these entries: a history of the world in which the volume before it ended, and no
-- longer than that volume
pub record MayBegin (ended begun : List Entry) : Type 0 where
  pub same : LeadsToSame ended begun
  pub no_longer : length begun ≤ length ended

-- Two histories of a chain: the second continues the first.
use Rattle.std.specs.Prelude.{◌≢◌, ◌≤◌, ◌<◌, ℕ, List, length, take, Option, MatchOption}
use Rattle.mud_world.specs.History.{world_of}
use Rattle.mud_chron.specs.Entry.{Entry}
use Rattle.mud_chron.specs.Replay.{changes_of, world_at}
use Rattle.mud_compact.specs.Shorter.{LeadsToSame}

-- the first `version` entries of the new history lead to the last world of the old one, and are no longer than it;
-- fewer entries do not
pub record ContinuesAt (old new : List Entry) (version : ℕ) : Type 0 where
  pub within : version ≤ length new
  pub no_longer : version ≤ length old
  pub same : LeadsToSame old (take version new)
  pub least : (n : ℕ) → n < version → world_at new n ≢ world_of (changes_of old)

-- no prefix of the new history that is no longer than the old one leads to the last world of the old one
abbrev pub ContinuesNever : List Entry → List Entry → Type 0
ContinuesNever old new =
    (n : ℕ) → n ≤ length new → n ≤ length old → world_at new n ≢ world_of (changes_of old)

-- the version at which the new history continues the old one, if it does
abbrev pub IsContinuation : List Entry → List Entry → Option ℕ → Type 0
IsContinuation old new version = MatchOption version (ContinuesNever old new) (ContinuesAt old new)

-- The journal of a hall, and what was read for it.
use Rattle.std.specs.Prelude.{◌≡◌, ℕ, Bool, false, List, ◌++◌, length, Option}
use Rattle.mud_chron.specs.Entry.{Entry}
use Rattle.mud_journal.specs.Disk.{Kept, Holds, HoldsFront}

-- the entries that were read, the contents of the disk, the number of synced entries, and whether the journal failed
pub record Keeping : Type 0 where
  pub entries : List Entry
  pub kept : Option Kept
  pub count : ℕ
  pub has_failed : Bool

-- this many first entries are synced; unless the journal has failed, all are
pub record IsKeeping (entries : List Entry) (kept : Option Kept) (count : ℕ) (has_failed : Bool) : Type 0 where
  pub synced : List Entry
  pub rest : List Entry
  pub front : entries ≡ synced ++ rest
  pub holds : HoldsFront kept synced entries
  pub counted : count ≡ length synced
  pub whole : has_failed ≡ false → Holds kept entries × (count ≡ length entries)

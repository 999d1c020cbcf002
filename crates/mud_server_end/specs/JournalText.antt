-- The contents of a server's journal.
use Rattle.std.specs.Prelude.{◌≡◌, ℕ, Bool, false, List, ◌++◌, length, Option}
use Rattle.mud_chron.specs.Entry.{Entry}
use Rattle.mud_journal.specs.Disk.{Kept, Holds, HoldsFront}

-- the entries given to a journal, the contents of its disk, and whether it has failed
pub record Written : Type 0 where
  pub entries : List Entry
  pub kept : Option Kept
  pub has_failed : Bool

-- a prefix of the entries is synced, and a prefix of their text is appended; unless the journal has failed, all of it
-- is synced
pub record IsWritten (entries : List Entry) (kept : Option Kept) (has_failed : Bool) (count : ℕ) : Type 0 where
  pub synced : List Entry
  pub rest : List Entry
  pub front : entries ≡ synced ++ rest
  pub holds : HoldsFront kept synced entries
  pub whole : has_failed ≡ false → Holds kept entries
  pub counted : has_failed ≡ false → count ≡ length entries

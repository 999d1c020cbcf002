-- The initial state of a hall.
use Rattle.std.specs.Prelude.{ℕ, ◌<◌, ◌≤◌, List, length}
use Rattle.mud_chron.specs.Entry.{Entry}
use Rattle.mud_chron.specs.Replay.{changes_of, AreLegal, IsFirstIllegal}
use Rattle.mud_hall.specs.declared.fault.LoadFault.{LoadFault}
use Rattle.mud_hall.specs.declared.fault.LoadFault.TheVariants.{OutOfMemory, BadChange, OverCapacity, NotStored}

-- the names of the cells of the history, and the initial entries
pub record Begun : Type 0 where
  pub cells : List ℕ
  pub loaded : List Entry

-- the reason why a hall with this capacity does not continue these entries
abbrev pub IsLoadFault : ℕ → List Entry → LoadFault → Type 0
IsLoadFault capacity entries OutOfMemory = Unit {0}
IsLoadFault capacity entries (BadChange n) = IsFirstIllegal (changes_of entries) n
IsLoadFault capacity entries OverCapacity = AreLegal (changes_of entries) × (capacity < length entries)
IsLoadFault capacity entries NotStored = AreLegal (changes_of entries) × (length entries ≤ capacity)

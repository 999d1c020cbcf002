-- A folder after a crash during the turn to the next volume, and the volume that a start finds in it.
use Rattle.std.specs.Prelude.{◌≡◌, ◌<◌, ◌⊎◌, ℕ, ◌+◌, List, [], Option, Some, None, unwrap_or}
use Rattle.mud_chron.specs.declared.format.Format.TheVariants.{Two}
use Rattle.mud_chron.specs.Entry.{Entry}
use Rattle.mud_chron.specs.Text.{journal_text}
use Rattle.mud_chron.specs.History.{AreEntriesOf}
use Rattle.mud_journal.specs.Disk.{made}
use Rattle.mud_journal.specs.Crash.{IsLeft}
use Rattle.mud_journal.specs.Found.{Finds}
use Rattle.mud_journal.specs.OpenFaults.{IsRefusedAs}
use Rattle.mud_journal.specs.declared.fault.OpenFault.{OpenFault}
use Rattle.mud_journal.specs.declared.fault.OpenFault.TheVariants.{OutOfMemory, File, InUse, NotPlain}
use Rattle.mud_shelf.specs.Names.{IsVolume, volume_name}
use Rattle.mud_shelf.specs.Draft.{IsNoneOrAll}

-- a folder: the bytes of each file, by its name
abbrev pub Folder : Type 0
Folder = List ℕ → Option (List ℕ)

-- the bytes of the volume with this number; a volume that is not there is created empty
abbrev pub volume_bytes : List ℕ → Folder → ℕ → List ℕ
volume_bytes journal folder n = unwrap_or (folder (volume_name journal n)) []

-- no volume with a higher number is there
abbrev pub IsHighest : List ℕ → Folder → ℕ → Type 0
IsHighest journal folder n = (m : ℕ) → n < m → IsVolume m → folder (volume_name journal m) ≡ None

-- a crash in the turn from volume n leaves this volume, which had its whole history synced, and no next one, or one
-- with all entries that it begins with
pub record IsLeftByTurn (Tears : List ℕ → List ℕ → Type 0) (journal : List ℕ) (n : ℕ) (history begun : List Entry)
    (left : Folder) : Type 0 where
  pub volume : IsVolume n
  pub old_allowed : AreEntriesOf Two history
  pub new_allowed : AreEntriesOf Two begun
  pub bytes : List ℕ
  pub there : left (volume_name journal n) ≡ Some bytes
  pub old : IsLeft Tears (Some (made (journal_text Two history))) bytes
  pub new : IsNoneOrAll Tears (journal_text Two begun) (left (volume_name journal (n + 1)))
  pub no_later : IsHighest journal left (n + 1)

-- the volume that a start continues: the one with the highest number, or the first one if there is none
pub record IsCurrent (journal : List ℕ) (folder : Folder) (n : ℕ) : Type 0 where
  pub volume : IsVolume n
  pub highest : IsHighest journal folder n
  pub there : folder (volume_name journal n) ≡ None → n ≡ 1

-- a start finds these entries in the volume that it continues
pub record IsFound (journal : List ℕ) (folder : Folder) (n : ℕ) (entries : List Entry) : Type 0 where
  pub current : IsCurrent journal folder n
  pub torn : ℕ
  pub found : Finds (volume_bytes journal folder n) entries torn

-- a fault that the bytes of a file do not show: memory ran out, a call failed, another process has the file, or the
-- name belongs to no plain file
abbrev pub IsOfSystem : OpenFault → Type 0
IsOfSystem OutOfMemory = Unit {0}
IsOfSystem (File why) = Unit {0}
IsOfSystem InUse = Unit {0}
IsOfSystem NotPlain = Unit {0}
IsOfSystem other = ⊥

-- the reason why a file with these bytes is not opened
abbrev pub IsUnopened : List ℕ → OpenFault → Type 0
IsUnopened bytes fault = IsOfSystem fault ⊎ IsRefusedAs bytes fault

-- the reason why a start finds no volume: it may name a fault of the bytes only of the volume that it continues
abbrev pub IsNotFound : List ℕ → Folder → OpenFault → Type 0
IsNotFound journal folder fault =
    IsOfSystem fault ⊎ (n : ℕ) × IsCurrent journal folder n × IsRefusedAs (volume_bytes journal folder n) fault

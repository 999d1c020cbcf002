-- A temporary file that is to be the next volume: what its calls do, and what a crash leaves under the volume's name.
use Rattle.std.specs.Prelude.{◌≡◌, ◌≤◌, ◌⊎◌, ℕ, List, [], ◌++◌, Option, Some, None, IfSome, option_map}
use Rattle.mud_journal.specs.Disk.{Kept, made}
use Rattle.mud_journal.specs.Crash.{IsLeft}

-- the file is removed; it has its temporary name; it is renamed to the volume's name, which a crash may undo; the
-- rename is durable
pub data Stage : Type 0 where
  Removed : Stage
  Temporary : Kept → Stage
  Renamed : Kept → Stage
  Published : Kept → Stage

-- the bytes of the file change
abbrev pub with_file : (Kept → Kept) → Stage → Stage
with_file change Removed = Removed
with_file change (Temporary file) = Temporary (change file)
with_file change (Renamed file) = Renamed (change file)
with_file change (Published file) = Published (change file)

-- these bytes are appended
abbrev pub after_append : List ℕ → Stage → Stage
after_append bytes = with_file (λ file. record file { appended = file.appended ++ bytes })

-- all appended bytes are synced
abbrev pub after_sync : Stage → Stage
after_sync = with_file (λ file. made file.appended)

-- the file gets the volume's name
abbrev pub after_rename : Stage → Stage
after_rename (Temporary file) = Renamed file
after_rename stage = stage

-- no crash undoes a rename any more
abbrev pub after_folder_sync : Stage → Stage
after_folder_sync (Renamed file) = Published file
after_folder_sync stage = stage

-- a file with its temporary name is removed
abbrev pub after_discard : Stage → Stage
after_discard (Temporary file) = Removed
after_discard stage = stage

-- the stages that are known change like this
abbrev pub Becomes : (Stage → Stage) → Option Stage → Option Stage → Type 0
Becomes step old new = new ≡ option_map step old

-- a crash leaves no file with the volume's name, or one with these bytes
abbrev pub MayLeave : (List ℕ → List ℕ → Type 0) → Stage → Option (List ℕ) → Type 0
MayLeave Tears Removed left = left ≡ None
MayLeave Tears (Temporary file) left = left ≡ None
MayLeave Tears (Renamed file) left = IfSome left (IsLeft Tears (Some file))
MayLeave Tears (Published file) None = ⊥
MayLeave Tears (Published file) (Some bytes) = IsLeft Tears (Some file) bytes

-- likewise, if the stage is known
abbrev pub MayLeaveNow : (List ℕ → List ℕ → Type 0) → Option Stage → Option (List ℕ) → Type 0
MayLeaveNow Tears stage left = IfSome stage (λ s. MayLeave Tears s left)

-- a call takes time: a crash at a moment since an earlier one leaves what it might have left before the call, or this
pub record Elapses (before now : ℕ) (past since : ℕ → Option (List ℕ) → Type 0) (Leaves : Option (List ℕ) → Type 0)
    : Type 0 where
  pub later : before ≤ now
  pub only : (moment : ℕ) (left : Option (List ℕ)) → moment ≤ before → since moment left
      → past moment left ⊎ Leaves left

-- nothing was written to the file yet
abbrev pub IsFresh : Option Stage → Type 0
IsFresh stage = IfSome stage (λ s. s ≡ Temporary (made []))

-- no crash leaves the next volume
abbrev pub HasNoVolume : Stage → Type 0
HasNoVolume Removed = Unit {0}
HasNoVolume (Temporary file) = Unit {0}
HasNoVolume stage = ⊥

-- likewise, if the stage is known
abbrev pub IsCalledOff : Option Stage → Type 0
IsCalledOff stage = IfSome stage HasNoVolume

-- the next volume is there with exactly these bytes, whatever a crash leaves
abbrev pub IsPublished : Option Stage → List ℕ → Type 0
IsPublished stage bytes = IfSome stage (λ s. s ≡ Published (made bytes))

-- a crash leaves no file with the volume's name, or all of these bytes, which are synced
abbrev pub IsNoneOrAll : (List ℕ → List ℕ → Type 0) → List ℕ → Option (List ℕ) → Type 0
IsNoneOrAll Tears bytes left = IfSome left (IsLeft Tears (Some (made bytes)))

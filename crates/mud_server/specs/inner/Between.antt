-- The state of a server between two volumes.
use Rattle.std.specs.Prelude.{◌≡◌, ◌⊎◌, ℕ, Bool, false, List, [], ◌∷◌, length, take, Option}
use Rattle.std.specs.Io.KnownBytes.{Appends}
use Rattle.mud_io.specs.Streams.{Writer}
use Rattle.mud_chron.specs.Entry.{Entry}
use Rattle.mud_chron.specs.Text.{history_text}
use Rattle.mud_chron.specs.declared.format.Format.TheVariants.{Two}
use Rattle.mud_journal.specs.Disk.{Kept, Holds}
use Rattle.mud_server_state.specs.declared.limits.Limits.{Limits}
use Rattle.mud_server_end.specs.declared.fault.ServerFault.{ServerFault}
use Rattle.mud_server_end.specs.Server.{IsServerFault}
use Rattle.mud_server.specs.MayBegin.{MayBegin}
use Rattle.mud_server.specs.Volumes.{Volume, IsWhole, AreVolumes, Files, Finishes, FinishesFirst}

-- the journal of a volume that begins with these entries: its file keeps them, and no call has failed
pub record IsReady (kept : Option Kept) (count : ℕ) (has_failed : Bool) (begun : List Entry) : Type 0 where
  pub holds : Holds kept begun
  pub counted : count ≡ length begun
  pub going : has_failed ≡ false

-- a volume that began with these entries was whole at its end and was finished, and the next one may begin with those
pub record MayTurn (limits : Limits) (begun next : List Entry) (old new : Files) : Type 0 where
  pub volume : Volume
  pub from : volume.begun ≡ begun
  pub whole : IsWhole limits volume
  pub begins : MayBegin volume.ended next
  pub finishes : Finishes (volume ∷ []) old new

-- no volume was finished, or one that began with these entries and was whole at its end
abbrev pub MayStop : Limits → List Entry → Files → Files → Type 0
MayStop limits begun old new =
    (new ≡ old)
    ⊎ ((volume : Volume) × (volume.begun ≡ begun) × IsWhole limits volume × Finishes (volume ∷ []) old new)

-- a server that began with these entries has finished some volumes, and the next one may begin with those
pub record MayFollow (limits : Limits) (loaded next : List Entry) (old new : Files) : Type 0 where
  pub earlier : List Volume
  pub last : Volume
  pub are : AreVolumes limits loaded (last ∷ earlier)
  pub begins : MayBegin last.ended next
  pub finishes : Finishes (last ∷ earlier) old new

-- a server that began with these entries ended with a volume of that history, which its file keeps
pub record MayClose (limits : Limits) (loaded : List Entry) (old new : Files) (kept : Option Kept)
    (history : List Entry) : Type 0 where
  pub begun : List Entry
  pub earlier : List Volume
  pub are : AreVolumes limits loaded (record { begun = begun; ended = history; kept = kept } ∷ earlier)
  pub holds : Holds kept history
  pub finishes : Finishes earlier old new

-- the whole text of the last volume of a server was written
pub record WritesLast (limits : Limits) (loaded : List Entry) (old new : Files) (held now_held : Option (List ℕ))
    : Type 0 where
  pub earlier : List Volume
  pub last : Volume
  pub are : AreVolumes limits loaded (last ∷ earlier)
  pub finishes : Finishes earlier old new
  pub written : Appends held now_held (history_text Two last.ended)

-- nothing was written, or a prefix of the text of such a volume
abbrev pub WritesLastInPart : Limits → List Entry → Files → Files → Option (List ℕ) → Option (List ℕ) → Type 0
WritesLastInPart limits loaded old new held now_held =
    (FinishesFirst limits loaded old new × Appends held now_held [])
    ⊎ ((n : ℕ) × (earlier : List Volume) × (last : Volume) × AreVolumes limits loaded (last ∷ earlier)
    × Finishes earlier old new × Appends held now_held (take n (history_text Two last.ended)))

-- a fault after the loaded entries were taken: it is not `Load`, and `Write` means that this writer has failed
abbrev pub IsLateFault : Writer → ServerFault → Type 0
IsLateFault new f = (capacity : ℕ) (loaded : List Entry) (old : Writer) → IsServerFault capacity loaded old new f

-- The volumes of a server.
use Rattle.std.specs.Prelude.{◌≡◌, ◌⊎◌, ℕ, Bool, List, [], ◌∷◌, ◌++◌, map, take, Option, option_map}
use Rattle.std.specs.Io.KnownBytes.{Appends}
use Rattle.mud_chron.specs.Entry.{Entry}
use Rattle.mud_chron.specs.Text.{history_text}
use Rattle.mud_chron.specs.declared.format.Format.TheVariants.{Two}
use Rattle.mud_journal.specs.Disk.{Kept, Holds}
use Rattle.mud_server_state.specs.declared.limits.Limits.{Limits}
use Rattle.mud_server_end.specs.Server.{MayEnd, Opening, lines_of}
use Rattle.mud_server.specs.MayBegin.{MayBegin}
use Rattle.mud_server.specs.declared.volumes.LastJournal.{LastJournal}
use Rattle.mud_server.specs.declared.volumes.LastJournal.TheVariants.{First as OfFirst, Later as OfLater}

-- a volume: the entries that it began with and those that it ended with, and what its file keeps
pub record Volume : Type 0 where
  pub begun : List Entry
  pub ended : List Entry
  pub kept : Option Kept

-- the entries that a volume with these first entries can end with. The server continues it after a turn that is called
-- off
pub data MayLast (limits : Limits) (begun : List Entry) : List Entry → Type 0 where
  Once : (ended : List Entry) → MayEnd limits begun ended → MayLast limits begun ended
  Again : (ended later : List Entry) → MayLast limits begun ended → MayEnd limits ended later
      → MayLast limits begun later

-- it is a possible volume of a server, and its file keeps the whole of it
pub record IsWhole (limits : Limits) (volume : Volume) : Type 0 where
  pub lasts : MayLast limits volume.begun volume.ended
  pub holds : Holds volume.kept volume.ended

-- the volumes of a server, the last one first. The first one continues the loaded entries, and each later one follows
-- from the one before it
pub data AreVolumes (limits : Limits) (loaded : List Entry) : List Volume → Type 0 where
  First : (first : Volume) → first.begun ≡ loaded → IsWhole limits first → AreVolumes limits loaded (first ∷ [])
  Next : (earlier : List Volume) (last next : Volume) → AreVolumes limits loaded (last ∷ earlier)
      → MayBegin last.ended next.begun → IsWhole limits next
      → AreVolumes limits loaded (next ∷ last ∷ earlier)

-- the bytes that the files of the finished volumes of a folder keep, the last one first, if they are known
abbrev pub Files : Type 0
Files = Option (List (Option Kept))

-- exactly these volumes, the last one first, were finished
abbrev pub Finishes : List Volume → Files → Files → Type 0
Finishes volumes old new = new ≡ option_map (λ files. map (λ volume. volume.kept) volumes ++ files) old

-- no volume was finished, or exactly the first ones of such a server were
abbrev pub FinishesFirst : Limits → List Entry → Files → Files → Type 0
FinishesFirst limits loaded old new =
    (new ≡ old) ⊎ ((volumes : List Volume) × AreVolumes limits loaded volumes × Finishes volumes old new)

-- all volumes but the last one were finished. The lines of some ports were written, and after them the whole text of
-- the last volume
pub record SettlesVolumes (limits : Limits) (has_web : Bool) (loaded : List Entry) (finished now_finished : Files)
    (held now_held : Option (List ℕ)) : Type 0 where
  pub opening : Opening has_web
  pub earlier : List Volume
  pub last : Volume
  pub are : AreVolumes limits loaded (last ∷ earlier)
  pub finishes : Finishes earlier finished now_finished
  pub written : Appends held now_held (lines_of has_web opening ++ history_text Two last.ended)

-- the first volumes were finished, or none, and a prefix of the lines was written. Or all volumes but the last one were
-- finished, and the lines and a prefix of the text of the last one were written
abbrev pub SettlesVolumesInPart : Limits → (has_web : Bool) → List Entry → Files → Files → Option (List ℕ)
    → Option (List ℕ) → Type 0
SettlesVolumesInPart limits has_web loaded finished now_finished held now_held =
    (FinishesFirst limits loaded finished now_finished
    × (opening : Opening has_web) × (n : ℕ) × Appends held now_held (take n (lines_of has_web opening)))
    ⊎ ((opening : Opening has_web) × (n : ℕ) × (earlier : List Volume) × (last : Volume)
    × AreVolumes limits loaded (last ∷ earlier) × Finishes earlier finished now_finished
    × Appends held now_held (lines_of has_web opening ++ take n (history_text Two last.ended)))

-- a property of the journal of the first volume, and one of a later one's
abbrev pub MatchLast : {F L : Type 0} → (F → Type 0) → (L → Type 0) → LastJournal F L → Type 0
MatchLast first later (OfFirst f) = first f
MatchLast first later (OfLater l) = later l

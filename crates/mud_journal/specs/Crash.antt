-- The possible contents of a file after a crash at any moment, and the journal in them. `Tears` is a disk's own: the
-- bytes that may be left of those that were written and not synced.
use Rattle.std.specs.Prelude.{◌≡◌, ◌≤◌, ◌⊎◌, ℕ, List, [], ◌∷◌, ◌++◌, length, Option, Some, IfSome}
use mathlib.Core.List.{IsPrefix}
use Rattle.mud_chron.specs.declared.format.Format.TheVariants.{Two}
use Rattle.mud_chron.specs.Entry.{Entry}
use Rattle.mud_chron.specs.Text.{journal_text}
use Rattle.mud_chron.specs.History.{AreEntriesOf}
use Rattle.mud_journal.specs.Disk.{Kept, made, Holds, HoldsFront}

-- each byte is there as it was written, or as a zero; only zeros follow the written bytes
abbrev pub AreThere : List ℕ → List ℕ → Type 0
AreThere written [] = Unit {0}
AreThere [] (b ∷ bytes) = (b ≡ 0) × AreThere [] bytes
AreThere (a ∷ written) (b ∷ bytes) = ((b ≡ a) ⊎ (b ≡ 0)) × AreThere written bytes

-- any bytes are left: written ones, zeros, or those that an older file had there
abbrev pub AreAny : List ℕ → List ℕ → Type 0
AreAny written bytes = Unit {0}

-- a crash leaves the synced bytes, and after them what it may leave of the written ones
abbrev pub IsLeft : (List ℕ → List ℕ → Type 0) → Option Kept → List ℕ → Type 0
IsLeft Tears kept bytes = IfSome kept (λ disk. IsPrefix disk.synced bytes × Tears disk.appended bytes)

-- a call takes time: a crash at a moment since an earlier one leaves what it might have left before the call, or these
-- contents
pub record Elapses (before now : ℕ) (past since : ℕ → List ℕ → Type 0) (Leaves : List ℕ → Type 0) : Type 0 where
  pub later : before ≤ now
  pub only : (moment : ℕ) (bytes : List ℕ) → moment ≤ before → since moment bytes → past moment bytes ⊎ Leaves bytes

-- possible contents of a journal after a crash, if the first entries are synced and the others are being added
pub record IsLeftBy (Tears : List ℕ → List ℕ → Type 0) (bytes : List ℕ) (synced added : List Entry) : Type 0 where
  pub disk : Kept
  pub allowed : AreEntriesOf Two (synced ++ added)
  pub front : HoldsFront (Some disk) synced (synced ++ added)
  pub left : IsLeft Tears (Some disk) bytes

-- likewise, on a disk that leaves holes and nothing else
abbrev pub IsLeftOf : List ℕ → List Entry → List Entry → Type 0
IsLeftOf bytes synced added = IsLeftBy AreThere bytes synced added

-- a crash leaves a file that held a journal of this many entries with all of them, while these are being added
abbrev pub LeavesAll : (List ℕ → List ℕ → Type 0) → Option Kept → ℕ → List Entry → List ℕ → Type 0
LeavesAll Tears old count added bytes =
    IfSome old (λ disk. (entries : List Entry) → length entries ≡ count → Holds (Some disk) entries
    → AreEntriesOf Two (entries ++ added) → IsLeftBy Tears bytes entries added)

-- a crash leaves what it might have left before, or the text of a journal of these entries, which is synced
abbrev pub LeavesOldOrNew : (List ℕ → List ℕ → Type 0) → (List ℕ → Type 0) → List Entry → List ℕ → Type 0
LeavesOldOrNew Tears Past entries bytes =
    Past bytes ⊎ IsLeft Tears (Some (made (journal_text Two entries))) bytes

-- The contents of an append-only file, and the journal in them.
use Rattle.std.specs.Prelude.{◌≡◌, ◌≤◌, ℕ, List, ◌++◌, length, take, Option, Some, None, IfSome}
use Rattle.mud_chron.specs.declared.format.Format.TheVariants.{Two}
use Rattle.mud_chron.specs.Entry.{Entry}
use Rattle.mud_chron.specs.Text.{journal_text}

-- the bytes that this process wrote to the file, and the number of synced bytes
pub record Kept : Type 0 where
  pub appended : List ℕ
  pub synced : List ℕ

-- the contents change like this; if nothing is known, nothing is claimed, before or after
abbrev pub Becomes : (Kept → Kept → Type 0) → Option Kept → Option Kept → Type 0
Becomes IsSo (Some old) (Some new) = IsSo old new
Becomes IsSo None None = Unit {0}
Becomes IsSo old new = ⊥

-- the bytes are appended, and no more bytes are synced
abbrev pub Grows : Option Kept → Option Kept → List ℕ → Type 0
Grows old new bytes =
    Becomes (λ before after. (after.appended ≡ before.appended ++ bytes) × (after.synced ≡ before.synced)) old new

-- all appended bytes are synced
abbrev pub Syncs : Option Kept → Option Kept → Type 0
Syncs old new =
    Becomes (λ before after. (after.appended ≡ before.appended) × (after.synced ≡ before.appended)) old new

-- nothing changed
abbrev pub Stays : Option Kept → Option Kept → Type 0
Stays old new = Becomes (λ before after. (after.appended ≡ before.appended) × (after.synced ≡ before.synced)) old new

-- a file with these bytes, all written by this process and synced
abbrev pub made : List ℕ → Kept
made bytes = record { appended = bytes; synced = bytes }

-- the file has exactly these bytes
abbrev pub IsMade : Option Kept → List ℕ → Type 0
IsMade kept bytes = IfSome kept (λ disk. (disk.appended ≡ bytes) × (disk.synced ≡ bytes))

-- the file is the text of a journal of these entries, all of it synced
abbrev pub Holds : Option Kept → List Entry → Type 0
Holds kept entries = IsMade kept (journal_text Two entries)

-- the text of a journal of the first entries is synced, and the file is a prefix of the text of all written ones
abbrev pub HoldsFront : Option Kept → List Entry → List Entry → Type 0
HoldsFront kept synced written =
    IfSome kept (λ disk.
    (n : ℕ) × (length (journal_text Two synced) ≤ n) × (disk.appended ≡ take n (journal_text Two written))
    × (disk.synced ≡ journal_text Two synced))

-- a file that held a journal of this many entries holds the journal of these entries too
abbrev pub Adds : Option Kept → Option Kept → ℕ → List Entry → Type 0
Adds old new count added =
    (entries : List Entry) → length entries ≡ count → Holds old entries → Holds new (entries ++ added)

-- a file that held a journal of this many entries still has it synced, and a part of these entries
abbrev pub AddsInPart : Option Kept → Option Kept → ℕ → List Entry → Type 0
AddsInPart old new count added =
    (entries : List Entry) → length entries ≡ count → Holds old entries → HoldsFront new entries (entries ++ added)

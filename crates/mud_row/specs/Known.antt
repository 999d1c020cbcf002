-- The knowledge of a log of write-once cells.
use Rattle.std.specs.Prelude.{◌≡◌, ◌≤◌, ◌+◌, length, ℕ, zero, suc, List, ◌++◌, Option, None}
use Rattle.std.specs.Prelude.{slice_get, take, drop}
use Rattle.once_cell.specs.declared.race.note.Note.{Note}
use Rattle.mud_world.specs.declared.limits.TheConstants.{MOST_ENTRIES}
use Rattle.mud_chron.specs.Entry.{Entry}
use Rattle.mud_chron.specs.Text.{entries_text}
use Rattle.mud_row.specs.inner.Known.{names_of, known_front}

-- a pass: the names of the cells of its row, in order, and the entries of the known prefix
pub record Known : Type 0 where
  pub row : List ℕ
  pub list : List Entry

-- a replica: the knowledge of its pass, and the number of known entries that its world has applied
pub record Standing : Type 0 where
  pub row : List ℕ
  pub list : List Entry
  pub at : ℕ

-- the knowledge of a holder of notes. A reader need not look into this: contracts give each entry, and speak of a
-- `Known`
abbrev pub known_of : ℕ → List (Note Entry) → Known
known_of count notes = record { row = names_of notes; list = known_front count notes }

-- the layout of notes in memory. A reader need not look into this: contracts speak only of a `Known`
abbrev pub AreCounted : ℕ → List (Note Entry) → Type 0
AreCounted count notes = (length notes ≤ MOST_ENTRIES) × (length (known_front count notes) ≡ count)

-- entry n, counted from 1
abbrev pub entry_at : List Entry → ℕ → Option Entry
entry_at es zero = None
entry_at es (suc n) = slice_get es n

-- the list is extended by a prefix of the entries
pub record Fills (old entries new : List Entry) : Type 0 where
  pub count : ℕ
  pub few : count ≤ length entries
  pub is : new ≡ old ++ take count entries

-- the lines of the entries after the first n, in a history's text
abbrev pub lines_after : ℕ → List Entry → List ℕ
lines_after n es = entries_text (n + 1) (drop n es)

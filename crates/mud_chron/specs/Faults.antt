-- The faults of bytes that are not the text of a history.
use Rattle.std.specs.Prelude.{◌≡◌, ◌≢◌, ◌⊎◌, ℕ, ◌+◌, List, [], ◌++◌, length}
use Rattle.mud_chron.specs.declared.fault.ChronFault.{ChronFault}
use Rattle.mud_chron.specs.declared.fault.ChronFault.TheVariants.{NotHistory, BadLine, TooLong, NoEnd}
use Rattle.mud_chron.specs.declared.format.Format.{Format}
use Rattle.mud_key.specs.Lines.{HasNoLineFeed}
use Rattle.mud_world.specs.declared.limits.TheConstants.{MOST_ENTRIES}
use Rattle.mud_chron.specs.Entry.{Entry}
use Rattle.mud_chron.specs.Text.{line_feed, head_line, entry_line, end_line, journal_text}
use Rattle.mud_chron.specs.History.{IsEntryOf, AreEntriesOf}

-- the bytes do not begin with a first line
abbrev pub IsNoHistory : List ℕ → Type 0
IsNoHistory bytes = (format : Format) (rest : List ℕ) → bytes ≢ head_line format ++ line_feed ++ rest

-- the bytes are a first line, the lines of these entries, and this rest
pub record Begins (format : Format) (entries : List Entry) (bytes rest : List ℕ) : Type 0 where
  pub allowed : AreEntriesOf format entries
  pub spelled : bytes ≡ journal_text format entries ++ rest

-- no entry with this version has the line
abbrev pub IsNoEntryLine : Format → ℕ → List ℕ → Type 0
IsNoEntryLine format version line = (e : Entry) → IsEntryOf format e → line ≢ entry_line version e

-- after the lines of some entries comes a complete line, line n, that is not the line of a next entry
pub record HasOtherLine (bytes : List ℕ) (n : ℕ) : Type 0 where
  pub format : Format
  pub entries : List Entry
  pub line : List ℕ
  pub rest : List ℕ
  pub begins : Begins format entries bytes (line ++ line_feed ++ rest)
  pub whole : HasNoLineFeed line
  pub other : IsNoEntryLine format (length entries + 1) line
  pub number : n ≡ length entries + 2

-- line n is such a line, and it is not the last line after those entries either
pub record HasBadLine (bytes : List ℕ) (n : ℕ) : Type 0 where
  pub stands : HasOtherLine bytes n
  pub no_end : stands.line ≢ end_line (length stands.entries)

-- at least one byte, in line n, follows a whole text
pub record HasMore (bytes : List ℕ) (n : ℕ) : Type 0 where
  pub format : Format
  pub entries : List Entry
  pub rest : List ℕ
  pub begins : Begins format entries bytes (end_line (length entries) ++ line_feed ++ rest)
  pub more : rest ≢ []
  pub number : n ≡ length entries + 3

-- the line of one more entry follows 65,536 entries
pub record IsTooLong (bytes : List ℕ) : Type 0 where
  pub format : Format
  pub entries : List Entry
  pub next : Entry
  pub rest : List ℕ
  pub begins : Begins format entries bytes (entry_line (MOST_ENTRIES + 1) next ++ line_feed ++ rest)
  pub full : length entries ≡ MOST_ENTRIES
  pub has_line : IsEntryOf format next

-- after the lines of some entries there is no line feed
pub record HasNoEnd (bytes : List ℕ) : Type 0 where
  pub format : Format
  pub entries : List Entry
  pub rest : List ℕ
  pub begins : Begins format entries bytes rest
  pub unended : HasNoLineFeed rest

-- the fault of the bytes; bytes do not determine out of memory, and only `replay` finds bad changes
abbrev pub HasFault : List ℕ → ChronFault → Type 0
HasFault bytes NotHistory = IsNoHistory bytes
HasFault bytes (BadLine n) = HasBadLine bytes n ⊎ HasMore bytes n
HasFault bytes TooLong = IsTooLong bytes
HasFault bytes NoEnd = HasNoEnd bytes
HasFault bytes other = ⊥

-- The prefixes of a journal, which is the text of a history without its last line.
use Rattle.std.specs.Prelude.{◌≡◌, ◌≤◌, ◌⊎◌, ℕ, List, [], ◌++◌, length}
use mathlib.Core.List.{IsPrefix}
use Rattle.mud_chron.specs.declared.fault.ChronFault.{ChronFault}
use Rattle.mud_chron.specs.declared.fault.ChronFault.TheVariants.{NotHistory, BadLine, TooLong}
use Rattle.mud_chron.specs.declared.format.Format.{Format}
use Rattle.mud_chron.specs.declared.format.Format.TheVariants.{Two}
use Rattle.mud_chron.specs.Entry.{Entry}
use Rattle.mud_chron.specs.Text.{line_feed, head_line, journal_text}
use Rattle.mud_chron.specs.History.{AreEntriesOf}
use Rattle.mud_chron.specs.Faults.{IsNoHistory, IsTooLong, HasOtherLine}
use Rattle.mud_key.specs.Lines.{HasNoLineFeed}

-- the bytes are a prefix of a first line
abbrev pub BeginsHead : List ℕ → Type 0
BeginsHead bytes = (format : Format) × IsPrefix bytes (head_line format ++ line_feed)

-- the bytes end inside the first line: there are no entries, nothing is kept, and the format is the one that is written
abbrev pub EndsInHead : List ℕ → Format → List Entry → ℕ → Type 0
EndsInHead bytes format entries keep =
    IsNoHistory bytes × BeginsHead bytes × (format ≡ Two) × (entries ≡ []) × (keep ≡ 0)

-- the bytes are the text of a journal of these entries, which is kept, and an incomplete line, which is dropped
abbrev pub EndsInLine : List ℕ → Format → List Entry → ℕ → Type 0
EndsInLine bytes format entries keep =
    (torn : List ℕ) × (bytes ≡ journal_text format entries ++ torn) × HasNoLineFeed torn
    × (keep ≡ length (journal_text format entries))

-- the result of recovery: the format, the entries with complete lines, and the number of bytes in those lines
pub record Recovers (bytes : List ℕ) (format : Format) (entries : List Entry) (keep : ℕ) : Type 0 where
  pub allowed : AreEntriesOf format entries
  pub within : keep ≤ length bytes
  pub ends : EndsInHead bytes format entries keep ⊎ EndsInLine bytes format entries keep

-- the fault of bytes that are not a prefix of any journal; bytes do not determine out of memory
abbrev pub HasFrontFault : List ℕ → ChronFault → Type 0
HasFrontFault bytes NotHistory = IsNoHistory bytes × (BeginsHead bytes → ⊥)
HasFrontFault bytes (BadLine n) = HasOtherLine bytes n
HasFrontFault bytes TooLong = IsTooLong bytes
HasFrontFault bytes other = ⊥

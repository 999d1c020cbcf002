-- The saved part of a damaged journal: its longest readable prefix.
use Rattle.std.specs.Prelude.{◌≡◌, ◌≤◌, ℕ, ◌+◌, List, length}
use mathlib.Core.List.{IsPrefix}
use Rattle.mud_chron.specs.declared.fault.ChronFault.{ChronFault}
use Rattle.mud_chron.specs.declared.fault.ChronFault.TheVariants.{OutOfMemory, NotHistory}
use Rattle.mud_chron.specs.declared.format.Format.{Format}
use Rattle.mud_chron.specs.declared.format.Format.TheVariants.{Two}
use Rattle.mud_chron.specs.Entry.{Entry}
use Rattle.mud_chron.specs.Text.{journal_text, history_text}
use Rattle.mud_chron.specs.History.{AreEntriesOf}
use Rattle.mud_chron.specs.Faults.{IsNoHistory}
use Rattle.mud_compact.specs.declared.fault.KeptFault.{KeptFault}
use Rattle.mud_compact.specs.declared.fault.KeptFault.TheVariants.{Empty, Text}

-- the bytes begin with the first line and the lines of these entries, whose length is keep
pub record BeginsWith (bytes : List ℕ) (entries : List Entry) (keep : ℕ) : Type 0 where
  pub format : Format
  pub allowed : AreEntriesOf format entries
  pub front : IsPrefix (journal_text format entries) bytes
  pub keep_is : keep ≡ length (journal_text format entries)

-- the bytes begin in this way, and with no longer text of a journal
pub record IsLongestFront (bytes : List ℕ) (entries : List Entry) (keep : ℕ) : Type 0 where
  pub begins : BeginsWith bytes entries keep
  pub longest : (others : List Entry) (more : ℕ) → BeginsWith bytes others more → more ≤ keep

-- the text is the history of the longest readable prefix, with its last line; the next line and the number of remaining
-- bytes are these
pub record IsFrontText (bytes text : List ℕ) (line left : ℕ) : Type 0 where
  pub entries : List Entry
  pub keep : ℕ
  pub front : IsLongestFront bytes entries keep
  pub text_is : text ≡ history_text Two entries
  pub line_is : line ≡ length entries + 2
  pub left_is : keep + left ≡ length bytes

-- there is no readable prefix, because the first line is not complete
abbrev pub HasNoFront : List ℕ → ChronFault → Type 0
HasNoFront bytes OutOfMemory = Unit {0}
HasNoFront bytes NotHistory = IsNoHistory bytes
HasNoFront bytes other = ⊥

-- the reason why nothing is saved
abbrev pub IsUnsaved : List ℕ → KeptFault → Type 0
IsUnsaved bytes Empty = length bytes ≡ 0
IsUnsaved bytes (Text fault) = HasNoFront bytes fault

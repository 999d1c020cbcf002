-- Reading and recovering files.
use Rattle.std.specs.Prelude.{◌≡◌, ◌≢◌, ◌<◌, ℕ, ◌+◌, List, length, Option, Some, None}
use Rattle.mud_chron.specs.declared.fault.ChronFault.{ChronFault}
use Rattle.mud_chron.specs.declared.fault.ChronFault.TheVariants.{OutOfMemory, NotHistory}
use Rattle.mud_chron.specs.declared.format.Format.{Format}
use Rattle.mud_chron.specs.Entry.{Entry}
use Rattle.mud_chron.specs.Text.{history_text}
use Rattle.mud_chron.specs.declared.format.Format.TheVariants.{Two}
use Rattle.mud_chron.specs.History.{SpellsHistory}
use Rattle.mud_chron.specs.Faults.{HasFault, IsNoHistory}
use Rattle.mud_chron.specs.Fronts.{Recovers, HasFrontFault}
use Rattle.mud_chron.specs.Zeros.{up_to_zero}
use Rattle.mud_checker.specs.Finding.{without_returns}
use Rattle.mud_compact.specs.declared.reading.TextKind.{TextKind}
use Rattle.mud_compact.specs.declared.reading.TextKind.TheVariants.{History, Journal}
use Rattle.mud_compact.specs.declared.fault.KeptFault.{KeptFault}
use Rattle.mud_compact.specs.declared.fault.KeptFault.TheVariants.{Empty, Text}

-- non-empty bytes are a journal, cut at any byte after its first line, and zeros and any other bytes may follow. These
-- are the entries with complete lines, and the number of bytes outside them
pub record HoldsEntries (bytes : List ℕ) (entries : List Entry) (torn : ℕ) : Type 0 where
  pub some : 0 < length bytes
  pub format : Format
  pub keep : ℕ
  pub found : Recovers (up_to_zero bytes) format entries keep
  pub begun : keep ≢ 0
  pub torn_is : keep + torn ≡ length bytes

-- the bytes are a history's text of these entries, ignoring CRs at line ends, or a journal with these entries and this
-- number of torn bytes
abbrev pub KeepsEntries : TextKind → List ℕ → List Entry → Option ℕ → Type 0
KeepsEntries History bytes entries None = SpellsHistory (without_returns bytes) entries
KeepsEntries Journal bytes entries (Some torn) = HoldsEntries bytes entries torn
KeepsEntries kind bytes entries torn = ⊥

-- the fault of bytes that are not a journal with a complete first line
abbrev pub HasJournalFault : List ℕ → ChronFault → Type 0
HasJournalFault bytes NotHistory = IsNoHistory bytes
HasJournalFault bytes fault = HasFrontFault bytes fault

-- the fault of bytes that are not such a text, unless memory ran out
abbrev pub HasKeptFault : TextKind → List ℕ → KeptFault → Type 0
HasKeptFault kind bytes Empty = length bytes ≡ 0
HasKeptFault History bytes (Text fault) =
    fault ≢ OutOfMemory → (0 < length bytes) × HasFault (without_returns bytes) fault
HasKeptFault Journal bytes (Text fault) =
    fault ≢ OutOfMemory → (0 < length bytes) × HasJournalFault (up_to_zero bytes) fault

-- the text is that of the history of the journal's entries, with its last line, and this many bytes are torn
pub record IsRecovered (bytes text : List ℕ) (torn : ℕ) : Type 0 where
  pub entries : List Entry
  pub holds : HoldsEntries bytes entries torn
  pub text_is : text ≡ history_text Two entries

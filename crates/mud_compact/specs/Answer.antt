-- The answers to a world's keeper.
use Rattle.std.specs.Prelude.{◌≡◌, ◌⊎◌, ℕ, List, length, Option, Some, None}
use Rattle.mud_world.specs.State.{State}
use Rattle.mud_world.specs.History.{world_of}
use Rattle.mud_chron.specs.declared.fault.ChronFault.{ChronFault}
use Rattle.mud_chron.specs.Entry.{Entry}
use Rattle.mud_chron.specs.Text.{history_text}
use Rattle.mud_chron.specs.declared.format.Format.TheVariants.{Two}
use Rattle.mud_chron.specs.Replay.{changes_of, AreLegal, HasIllegal}
use Rattle.mud_compact.specs.Recovery.{KeepsEntries, HasKeptFault, IsRecovered}
use Rattle.mud_compact.specs.Front.{IsFrontText}
use Rattle.mud_compact.specs.Shorter.{IsShortened}
use Rattle.mud_compact.specs.Rows.{shown_text}
use Rattle.mud_compact.specs.declared.reading.TextKind.{TextKind}
use Rattle.mud_compact.specs.declared.fault.KeptFault.{KeptFault}
use Rattle.mud_compact.specs.declared.fault.KeptFault.TheVariants.{Text}
use Rattle.mud_compact.specs.declared.answering.Note.{Note}
use Rattle.mud_compact.specs.declared.answering.Note.TheVariants.{Nothing, LeftOut, Shortened}

-- the text is that of a shorter history of the same world as that of the entries in the bytes
pub record IsShorterText (kind : TextKind) (bytes text : List ℕ) (torn : Option ℕ) (before after : ℕ) : Type 0 where
  pub entries : List Entry
  pub shorter : List Entry
  pub kept : KeepsEntries kind bytes entries torn
  pub shortened : IsShortened entries shorter
  pub text_is : text ≡ history_text Two shorter
  pub before_is : before ≡ length entries
  pub after_is : after ≡ length shorter

-- the text is the table of the world of the entries in the bytes, all of which are legal
pub record IsShownText (kind : TextKind) (bytes text : List ℕ) (torn : Option ℕ) : Type 0 where
  pub entries : List Entry
  pub kept : KeepsEntries kind bytes entries torn
  pub legal : AreLegal (changes_of entries)
  pub text_is : text ≡ shown_text (world_of (changes_of entries))

-- the bytes keep these entries, and all of them are legal
pub record KeepsLegal (kind : TextKind) (bytes : List ℕ) (torn : Option ℕ) (entries : List Entry) : Type 0 where
  pub kept : KeepsEntries kind bytes entries torn
  pub legal : AreLegal (changes_of entries)

-- the bytes keep entries that are all legal and lead to this world
pub record KeepsWorld (kind : TextKind) (bytes : List ℕ) (torn : Option ℕ) (w : State) : Type 0 where
  pub entries : List Entry
  pub kept : KeepsEntries kind bytes entries torn
  pub legal : AreLegal (changes_of entries)
  pub world : w ≡ world_of (changes_of entries)

-- the text is the history in a journal, and the number of torn bytes is reported
abbrev pub IsRecovery : List ℕ → List ℕ → Option ℕ → Note → Type 0
IsRecovery bytes text (Some torn) Nothing = IsRecovered bytes text torn
IsRecovery bytes text torn note = ⊥

-- the text is the history of the longest readable prefix, and the note reports what is left out
abbrev pub IsFrontAnswer : List ℕ → List ℕ → Option ℕ → Note → Type 0
IsFrontAnswer bytes text None (LeftOut left line) = IsFrontText bytes text line left
IsFrontAnswer bytes text torn note = ⊥

-- the text is that of a shorter history, and the note reports the numbers of changes before and after
abbrev pub IsShorterAnswer : TextKind → List ℕ → List ℕ → Option ℕ → Note → Type 0
IsShorterAnswer kind bytes text torn (Shortened before after) = IsShorterText kind bytes text torn before after
IsShorterAnswer kind bytes text torn note = ⊥

-- the text is the table of the world, and there is no note
abbrev pub IsTable : TextKind → List ℕ → List ℕ → Option ℕ → Note → Type 0
IsTable kind bytes text torn Nothing = IsShownText kind bytes text torn
IsTable kind bytes text torn note = ⊥

-- the bytes have entries that are not all legal
pub record KeepsIllegal (kind : TextKind) (bytes : List ℕ) (fault : ChronFault) : Type 0 where
  pub entries : List Entry
  pub torn : Option ℕ
  pub kept : KeepsEntries kind bytes entries torn
  pub illegal : HasIllegal entries fault

-- the bytes have no world
abbrev pub KeepsNoWorld : TextKind → List ℕ → KeptFault → Type 0
KeepsNoWorld kind bytes (Text fault) = HasKeptFault kind bytes (Text fault) ⊎ KeepsIllegal kind bytes fault
KeepsNoWorld kind bytes fault = HasKeptFault kind bytes fault

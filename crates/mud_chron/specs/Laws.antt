-- Laws of the definitions.
use Rattle.std.specs.Prelude.{◌≡◌, ◌≢◌, ◌⊎◌, ℕ, ◌≤◌, ◌<◌, List, [], ◌∷◌, ◌++◌, length, take, None}
use Rattle.std.specs.List.{AllByRecursion}
use mathlib.Core.List.{IsPrefix}
use Rattle.mud_world.specs.State.{State}
use Rattle.mud_world.specs.Sound.{IsSound}
use Rattle.mud_world.specs.Legal.{refusal}
use Rattle.mud_world.specs.declared.change.Change.{Change}
use Rattle.mud_chron.specs.declared.fault.ChronFault.{ChronFault}
use Rattle.mud_chron.specs.declared.format.Format.{Format}
use Rattle.mud_chron.specs.declared.format.Format.TheVariants.{Two}
use Rattle.mud_key.specs.declared.codes.TheConstants.{CR}
use Rattle.mud_world.specs.declared.limits.TheConstants.{MOST_ENTRIES}
use Rattle.mud_chron.specs.declared.limits.TheConstants.{MOST_DESKS}
use Rattle.mud_chron.specs.Entry.{Entry, IsEntry, IsSpellable}
use Rattle.mud_chron.specs.Text.{line_feed, head_line, history_text, journal_text}
use Rattle.mud_chron.specs.History.{AreEntriesOf, SpellsHistory}
use Rattle.mud_chron.specs.Faults.{HasFault}
use Rattle.mud_chron.specs.Fronts.{Recovers, HasFrontFault}

-- a change that is legal in a sound world is spellable for every desk
abbrev pub LegalIsSpellable : Type 0
LegalIsSpellable =
    (w : State) (desk : ℕ) (change : Change) → IsSound w → refusal w change ≡ None → 1 ≤ desk → desk ≤ MOST_DESKS
    → IsSpellable desk change

-- bytes are the text of at most one list of entries, in either format
abbrev pub SpellsOne : Type 0
SpellsOne =
    (bytes : List ℕ) (entries others : List Entry) → SpellsHistory bytes entries → SpellsHistory bytes others
    → entries ≡ others

-- bytes have at most one fault
abbrev pub HasOneFault : Type 0
HasOneFault = (bytes : List ℕ) (fault other : ChronFault) → HasFault bytes fault → HasFault bytes other → fault ≡ other

-- the text of a history contains no carriage return
abbrev pub HasNoReturns : Type 0
HasNoReturns =
    (text : List ℕ) (entries : List Entry) → SpellsHistory text entries → AllByRecursion (λ b. b ≢ CR) text

-- bytes with a fault are not the text of any entries
abbrev pub FaultsAreNoTexts : Type 0
FaultsAreNoTexts =
    (bytes : List ℕ) (fault : ChronFault) (entries : List Entry) → HasFault bytes fault
    → SpellsHistory bytes entries → ⊥

-- a written text reads back as exactly its entries
abbrev pub IsWrittenAgain : Type 0
IsWrittenAgain =
    (entries others : List Entry) → AllByRecursion IsEntry entries → length entries ≤ MOST_ENTRIES
    → SpellsHistory (history_text Two entries) entries
    × (SpellsHistory (history_text Two entries) others → others ≡ entries)

-- ---- journals

-- in the first n bytes of a journal these entries have complete lines, and keep is the length of their text, or 0
pub record AreWhole (format : Format) (entries : List Entry) (n : ℕ)
    (found : Format) (got : List Entry) (keep : ℕ) : Type 0 where
  pub left_out : List Entry
  pub front : entries ≡ got ++ left_out
  pub next : (e : Entry) (rest : List Entry) → left_out ≡ e ∷ rest
      → n < length (journal_text format (got ++ e ∷ []))
  pub fits : keep ≤ n
  pub kept : (n < length (head_line format ++ line_feed)) × (got ≡ []) × (keep ≡ 0)
      ⊎ (found ≡ format) × (keep ≡ length (journal_text format got))

-- bytes with a fault are not a prefix of any journal
abbrev pub FaultsAreNoFronts : Type 0
FaultsAreNoFronts =
    (bytes : List ℕ) (fault : ChronFault) → HasFrontFault bytes fault
    → (format : Format) (entries : List Entry) (n : ℕ) → AreEntriesOf format entries
    → bytes ≢ take n (journal_text format entries)

-- a journal that was cut after its synced part: every synced entry is found, and only written entries are
abbrev pub NothingIsLost : Type 0
NothingIsLost =
    (format found : Format) (synced after got : List Entry) (n keep : ℕ) → AreEntriesOf format (synced ++ after)
    → length (journal_text format synced) ≤ n
    → Recovers (take n (journal_text format (synced ++ after))) found got keep
    → IsPrefix synced got × IsPrefix got (synced ++ after)

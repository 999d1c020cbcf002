-- The texts of histories.
use Rattle.std.specs.Prelude.{◌≡◌, ℕ, ◌≤◌, List, length}
use Rattle.std.specs.List.{AllByRecursion}
use Rattle.mud_world.specs.declared.change.Deed.{Deed}
use Rattle.mud_world.specs.declared.change.Deed.TheVariants.{Cost}
use Rattle.mud_chron.specs.declared.format.Format.{Format}
use Rattle.mud_chron.specs.declared.format.Format.TheVariants.{One}
use Rattle.mud_world.specs.declared.limits.TheConstants.{MOST_ENTRIES}
use Rattle.mud_chron.specs.Entry.{Entry, IsEntry}
use Rattle.mud_chron.specs.Text.{history_text}

-- format 1 has no exit that costs 0; otherwise the formats have the same lines
abbrev pub HasLine : Format → Deed → Type 0
HasLine One (Cost exit cost) = 1 ≤ cost
HasLine format deed = Unit {0}

-- the entry has a line in this format
abbrev pub IsEntryOf : Format → Entry → Type 0
IsEntryOf format e = IsEntry e × HasLine format e.change.deed

-- entries that have a text: each has a line in this format, and there are at most 65,536
pub record AreEntriesOf (format : Format) (entries : List Entry) : Type 0 where
  pub each : AllByRecursion (IsEntryOf format) entries
  pub few : length entries ≤ MOST_ENTRIES

-- the bytes are the text of these entries, in one of the formats
abbrev pub SpellsHistory : List ℕ → List Entry → Type 0
SpellsHistory bytes entries = (format : Format) × AreEntriesOf format entries × (bytes ≡ history_text format entries)

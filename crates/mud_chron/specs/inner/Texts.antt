-- Parts of an entry's line and of a history's text.
use Rattle.std.specs.Prelude.{ℕ, List, [], ◌++◌, codes, Option, ◌+◌, ◌≢◌}
use Rattle.std.specs.Option.{option_map_or}
use Rattle.mud_key.specs.Printed.{number_text}
use Rattle.mud_world.specs.declared.change.Change.{Change}
use Rattle.mud_world.specs.declared.change.Doors.{Doors}
use Rattle.mud_chron.specs.declared.format.Format.{Format}
use Rattle.mud_chron.specs.declared.format.Format.TheVariants.{Two}
use Rattle.mud_chron.specs.Entry.{Entry}
use Rattle.mud_chron.specs.Text.{in_quotes, deed_text, entry_line, line_feed, journal_text, history_text, end_line}
use Rattle.mud_chron.specs.Faults.{IsNoEntryLine}

-- the exit back of a dig, if there is one
abbrev pub back_text : Option (List (List ℕ)) → List ℕ
back_text back = option_map_or (λ names. codes " back " ++ in_quotes names) back []

-- the exits of a dig, if there are any
abbrev pub doors_text : Option Doors → List ℕ
doors_text doors = option_map_or (λ d. codes " out " ++ in_quotes d.out ++ back_text d.back) doors []

-- a change, without a line's end
abbrev pub change_text : Change → List ℕ
change_text change = deed_text (number_text change.actor) change.deed

-- the line of an entry, with its end
abbrev pub entry_text : ℕ → Entry → List ℕ
entry_text version e = entry_line version e ++ line_feed

-- the text of a journal of these entries, and the bytes after it
abbrev pub begun_text : Format → List Entry → List ℕ → List ℕ
begun_text format entries rest = journal_text format entries ++ rest

-- the text as it is written, in format 2
abbrev pub written_text : List Entry → List ℕ
written_text entries = history_text Two entries

-- the line is neither that of a next entry after this many nor the last line after them
abbrev pub IsBad : Format → ℕ → List ℕ → Type 0
IsBad format count line = IsNoEntryLine format (count + 1) line × (line ≢ end_line count)

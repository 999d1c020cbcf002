-- The text of a history: each value has exactly one spelling, line by line.
use Rattle.std.specs.Prelude.{ℕ, ◌+◌, List, [], ◌∷◌, ◌++◌, length, codes}
use Rattle.std.specs.List.{join_by}
use Rattle.std.specs.Fmt.{decimal}
use Rattle.mud_key.specs.Printed.{number_text, by_text, printed}
use Rattle.mud_world.specs.declared.change.Target.{Target}
use Rattle.mud_world.specs.declared.change.Target.TheVariants.{New, Old}
use Rattle.mud_world.specs.declared.change.Deed.{Deed}
use Rattle.mud_world.specs.declared.change.Deed.TheVariants.{Dig, Make, Lock, Unlock, Move, Walk, Cost, Player, Rename}
use Rattle.mud_world.specs.declared.change.Deed.TheVariants.{Recycle, Say, Emote}
use Rattle.mud_chron.specs.declared.format.Format.{Format}
use Rattle.mud_chron.specs.declared.format.Format.TheVariants.{One, Two}
use Rattle.mud_chron.specs.Entry.{Entry}
use Rattle.std.specs.Option.{option_map_or}

-- the end of a line
abbrev pub line_feed : List ℕ
line_feed = codes "\n"

-- the names in double quotes, separated by commas
abbrev pub in_quotes : List (List ℕ) → List ℕ
in_quotes names = codes "\"" ++ join_by (λ name. name) (codes ",") names ++ codes "\""

-- the target of a dig: a new room, or an existing one
abbrev pub target_text : Target → List ℕ
target_text (New names) = codes "new " ++ in_quotes names
target_text (Old room) = codes "old " ++ number_text room

-- a deed after its actor; a dig has its exits and the exit back, if there are any
abbrev pub deed_text : List ℕ → Deed → List ℕ
deed_text actor (Dig target doors) =
    codes "dig " ++ actor ++ codes " " ++ target_text target
    ++ option_map_or
    (λ d. codes " out " ++ in_quotes d.out ++ option_map_or (λ names. codes " back " ++ in_quotes names) d.back [])
    doors []
deed_text actor (Make names) = codes "make " ++ actor ++ codes " " ++ in_quotes names
deed_text actor (Player name) = codes "player " ++ actor ++ codes " " ++ in_quotes (name ∷ [])
deed_text actor (Lock object key) =
    codes "lock " ++ actor ++ codes " " ++ number_text object ++ codes " " ++ printed (by_text key)
deed_text actor (Unlock object) = codes "unlock " ++ actor ++ codes " " ++ number_text object
deed_text actor (Move thing to) =
    codes "move " ++ actor ++ codes " " ++ number_text thing ++ codes " " ++ number_text to
deed_text actor (Walk exit) = codes "walk " ++ actor ++ codes " " ++ number_text exit
deed_text actor (Cost exit cost) = codes "cost " ++ actor ++ codes " " ++ number_text exit ++ codes " " ++ decimal cost
deed_text actor (Rename object names) =
    codes "rename " ++ actor ++ codes " " ++ number_text object ++ codes " " ++ in_quotes names
deed_text actor (Recycle object) = codes "recycle " ++ actor ++ codes " " ++ number_text object
deed_text actor (Say text) = codes "say " ++ actor ++ codes " " ++ text
deed_text actor (Emote text) = codes "emote " ++ actor ++ codes " " ++ text

-- the line of an entry, without its end: its version, the desk, and the change
unfoldable pub entry_line : ℕ → Entry → List ℕ
entry_line version e =
    decimal version ++ codes " " ++ decimal e.desk ++ codes " " ++ deed_text (number_text e.change.actor) e.change.deed

-- the lines of entries, the first with this version
abbrev pub entries_text : ℕ → List Entry → List ℕ
entries_text version [] = []
entries_text version (e ∷ entries) = (entry_line version e ++ line_feed) ++ entries_text (version + 1) entries

-- the first line, without its end
abbrev pub head_line : Format → List ℕ
head_line One = codes "mud history 1"
head_line Two = codes "mud history 2"

-- the last line after this many entries, without its end
unfoldable pub end_line : ℕ → List ℕ
end_line count = codes "end " ++ decimal count

-- the text of a journal: the first line, and the lines of the entries
abbrev pub journal_text : Format → List Entry → List ℕ
journal_text format entries = head_line format ++ line_feed ++ entries_text 1 entries

abbrev pub history_text : Format → List Entry → List ℕ
history_text format entries = journal_text format entries ++ (end_line (length entries) ++ line_feed)

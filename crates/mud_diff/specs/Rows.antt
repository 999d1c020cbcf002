-- The differences of two worlds as a text, a row for each.
use Rattle.std.specs.Prelude.{ℕ, nat_eq, List, [], ◌∷◌, ◌++◌, codes, Option, Some, None, if◌then◌else◌}
use Rattle.std.specs.Fmt.{decimal}
use Rattle.std.specs.List.{flat_map}
use Rattle.std.specs.Option.{option_map_or}
use Rattle.mud_key.specs.Printed.{number_text, by_text, printed}
use Rattle.mud_world.specs.Kinds.{kind_place}
use Rattle.mud_world.specs.State.{State, record_at}
use Rattle.mud_world.specs.declared.record.Kind.{Kind}
use Rattle.mud_world.specs.declared.record.Kind.TheVariants as kinds
use Rattle.mud_world.specs.declared.record.Record.{Record}
use Rattle.mud_chron.specs.Text.{in_quotes, line_feed}
use Rattle.mud_diff.specs.declared.difference.What.{What}
use Rattle.mud_diff.specs.declared.difference.What.TheVariants.{Added, Removed, Names, Owner, Kind as KindOf, Place}
use Rattle.mud_diff.specs.declared.difference.What.TheVariants.{Source, Destination, Cost, Key}
use Rattle.mud_diff.specs.declared.difference.Difference.{Difference}
use Rattle.mud_diff.specs.Differences.{source_in, destination_in, cost_in}

-- the kind in a word
abbrev pub kind_text : Kind → List ℕ
kind_text kinds.Room = codes "room"
kind_text (kinds.Exit p) = codes "exit"
kind_text (kinds.Thing place) = codes "thing"
kind_text (kinds.Player place) = codes "player"

-- the number of an object, or `nothing`
abbrev pub object_or_nothing : Option ℕ → List ℕ
object_or_nothing o = option_map_or number_text o (codes "nothing")

-- the word before a value
abbrev pub word_of : What → List ℕ
word_of Added = codes " added "
word_of Removed = codes " removed "
word_of Names = codes " names "
word_of Owner = codes " owner "
word_of KindOf = codes " kind "
word_of Place = codes " place "
word_of Source = codes " from "
word_of Destination = codes " to "
word_of Cost = codes " cost "
word_of Key = codes " key "

-- the value of a field; for an object that is added or removed, its kind and names
abbrev pub value_text : What → Record → List ℕ
value_text Names r = in_quotes r.names
value_text Owner r = number_text r.owner
value_text KindOf r = kind_text r.kind
value_text Place r = object_or_nothing (kind_place r.kind)
value_text Source r = object_or_nothing (source_in r)
value_text Destination r = object_or_nothing (destination_in r)
value_text Cost r = option_map_or decimal (cost_in r) (codes "nothing")
value_text Key r = option_map_or (λ key. printed (by_text key)) r.key (codes "nothing")
value_text what r = kind_text r.kind ++ codes " " ++ in_quotes r.names

-- the value in the old world, `->`, and that in the new one; or the only one
abbrev pub change_text : What → Option Record → Option Record → List ℕ
change_text what (Some r) (Some s) = value_text what r ++ codes " -> " ++ value_text what s
change_text what (Some r) None = value_text what r
change_text what None (Some s) = value_text what s
change_text what None None = []

-- `#7 cost 1 -> 5`, `#9 added thing "cup"`
abbrev pub row : State → State → Difference → List ℕ
row old new d =
    number_text d.number ++ word_of d.what
    ++ change_text d.what (record_at old d.number) (record_at new d.number) ++ line_feed

-- the next numbers, where they differ
abbrev pub next_row : ℕ → ℕ → List ℕ
next_row old new =
    if nat_eq old new then [] else codes "next " ++ number_text old ++ codes " -> " ++ number_text new ++ line_feed

-- a row for each difference, and then the next numbers
abbrev pub rows : State → State → List Difference → List ℕ
rows old new ds = flat_map (row old new) ds ++ next_row old.next new.next

-- the text for worlds without a difference
abbrev pub or_same : List ℕ → List ℕ
or_same [] = codes "the worlds are the same\n"
or_same (b ∷ bytes) = b ∷ bytes

-- the rows, or the text for no row
abbrev pub diff_text : State → State → List Difference → List ℕ
diff_text old new ds = or_same (rows old new ds)

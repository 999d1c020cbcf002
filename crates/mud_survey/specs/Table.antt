-- A survey as a table for people: a row for each finding.
use Rattle.std.specs.Prelude.{ℕ, not, List, [], ◌∷◌, ◌++◌, codes, filter}
use Rattle.std.specs.List.{flat_map}
use Rattle.std.specs.Option.{option_map_or}
use Rattle.mud_key.specs.Printed.{number_text}
use Rattle.mud_key.specs.Tree.{atoms_of}
use Rattle.mud_world.specs.State.{State, record_at, exists, passage_of, key_of}
use Rattle.mud_chron.specs.Text.{in_quotes, line_feed}
use Rattle.mud_survey.specs.declared.row.Row.{Row}
use Rattle.mud_survey.specs.declared.row.Row.TheVariants.{Room, Exit, OneWay, Key, Thing}
use Rattle.mud_survey.specs.declared.survey.Stranded.{Stranded}
use Rattle.mud_survey.specs.declared.survey.Survey.{Survey}

-- the number of an object and its names
abbrev pub title : State → ℕ → List ℕ
title w n = number_text n ++ option_map_or (λ r. codes " " ++ in_quotes r.names) (record_at w n) []

-- the ends of an exit
abbrev pub ends_text : State → ℕ → List ℕ
ends_text w x =
    option_map_or (λ a. codes " from " ++ title w a.source ++ codes " to " ++ title w a.destination) (passage_of w x) []

-- the objects that a key names and that are gone, each as often as it stands there
abbrev pub gone_text : State → ℕ → List ℕ
gone_text w o =
    option_map_or (λ k. flat_map (λ a. codes " " ++ number_text a) (filter (λ a. not (exists w a)) (atoms_of k)))
    (key_of w o) []

-- the words before a number: nobody comes to the room, passes the exit, gets the thing, ..
abbrev pub words_of : Row → List ℕ
words_of Room = codes "nobody comes to room "
words_of Exit = codes "nobody passes exit "
words_of OneWay = codes "no exit leads back from exit "
words_of Key = codes "what is gone is named in the key of "
words_of Thing = codes "nobody gets thing "

-- the rest of a row: for a key, the objects that it names and that are gone
abbrev pub more_text : Row → State → ℕ → List ℕ
more_text Key w n = codes ":" ++ gone_text w n
more_text row w n = []

-- `nobody passes exit #7 "north" from #0 "The Hall" to #5 "Pit"`
abbrev pub row_text : Row → State → ℕ → List ℕ
row_text row w n = words_of row ++ title w n ++ ends_text w n ++ more_text row w n ++ line_feed

-- `no way back to #0 from room #5 "Pit" for player #4 "Ann"`
abbrev pub stranded_text : State → Stranded → List ℕ
stranded_text w s =
    codes "no way back to #0 from room " ++ title w s.room ++ codes " for player " ++ title w s.player ++ line_feed

-- a row for each finding
abbrev pub rows : State → Survey → List ℕ
rows w s =
    flat_map (row_text Room w) s.rooms.items ++ flat_map (row_text Exit w) s.exits.items
    ++ flat_map (row_text OneWay w) s.one_way.items ++ flat_map (stranded_text w) s.no_way_back.items
    ++ flat_map (row_text Key w) s.keys.items ++ flat_map (row_text Thing w) s.things.items

-- the text for no finding
abbrev pub or_nothing : List ℕ → List ℕ
or_nothing [] = codes "nothing found\n"
or_nothing (b ∷ bytes) = b ∷ bytes

-- the table
abbrev pub table_text : State → Survey → List ℕ
table_text w s = or_nothing (rows w s)

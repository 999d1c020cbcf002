-- The world as a table: a row for each object, sorted by number, and the next number.
use Rattle.std.specs.Prelude.{ℕ, List, [], ◌++◌, codes, Option, Some, None}
use Rattle.std.specs.Fmt.{decimal}
use Rattle.std.specs.List.{flat_map}
use Rattle.mud_key.specs.Tree.{Tree}
use Rattle.mud_key.specs.Printed.{number_text, by_text, printed}
use Rattle.mud_world.specs.State.{State}
use Rattle.mud_world.specs.declared.record.Kind.{Kind}
use Rattle.mud_world.specs.declared.record.Kind.TheVariants.{Room, Exit, Thing, Player}
use Rattle.mud_world.specs.declared.record.Record.{Record}
use Rattle.mud_chron.specs.Text.{line_feed, in_quotes}

-- the kind as a word
abbrev pub kind_word : Kind → List ℕ
kind_word Room = codes " room "
kind_word (Exit p) = codes " exit "
kind_word (Thing place) = codes " thing "
kind_word (Player place) = codes " player "

-- the place, or the ends and the cost
abbrev pub where_text : Kind → List ℕ
where_text Room = []
where_text (Exit p) =
    codes " from " ++ number_text p.source ++ codes " to " ++ number_text p.destination
    ++ codes " cost " ++ decimal p.cost
where_text (Thing place) = codes " in " ++ number_text place
where_text (Player place) = codes " in " ++ number_text place

-- the key, if there is one
abbrev pub lock_text : Option (Tree ℕ) → List ℕ
lock_text None = []
lock_text (Some key) = codes " key " ++ printed (by_text key)

-- the number of an object, its kind, its names and its owner
abbrev pub head_text : ℕ → Record → List ℕ
head_text n r = number_text n ++ kind_word r.kind ++ in_quotes r.names ++ codes " owner " ++ number_text r.owner

-- the row of object n, with its line end
abbrev pub row : ℕ → Record → List ℕ
row n r = head_text n r ++ where_text r.kind ++ lock_text r.key ++ line_feed

-- a row for each record, sorted by number, and then the next number
abbrev pub shown_text : State → List ℕ
shown_text w = flat_map (λ e. row e.0 e.1) w.objects ++ codes "next " ++ number_text w.next ++ line_feed

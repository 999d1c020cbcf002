-- The steps of the reader of names. Private clauses cite it, and `names_in` in Finds.antt computes with it. The law
-- `laws::names` ties that to names texts.
use Rattle.std.specs.Prelude.{ℕ, ◌+◌, ◌-◌, List, [], ◌∷◌, ◌++◌, length, map, replicate, Option, Some, None}
use Rattle.std.specs.Prelude.{string_bytes, nat_eq, nat_lt, if◌then◌else◌}
use Rattle.mud_key.specs.declared.codes.TheConstants.{SPACE, SHARP, COMMA}
use Rattle.mud_key.specs.declared.limits.TheConstants.{MOST_NAMES, MOST_NAME_BYTES}
use Rattle.mud_key.specs.declared.class.Class.{Class}
use Rattle.mud_key.specs.declared.class.Class.TheVariants.{Space, Digit, Letter, Sharp, Foreign}
use Rattle.mud_key.specs.declared.name_reader.NameReader.{NameReader}
use Rattle.mud_key.specs.declared.texts.Texts.{Texts}
use Rattle.mud_key.specs.Names.{texts_of}
use Rattle.mud_key.specs.inner.Class.{class_of}

-- the state of the reader: the complete names, the name that is being read, and the number of spaces after it
pub record Stand : Type 0 where
  pub list : List (List ℕ)
  pub text : List ℕ
  pub spaces : ℕ

-- the state of a reader
abbrev pub stand_of : NameReader → Stand
stand_of r = record { list = map string_bytes r.list.items; text = string_bytes r.draft.text; spaces = r.draft.spaces }

-- the state of a reader, if there is one
abbrev pub next_of : Option NameReader → Option Stand
next_of None = None
next_of (Some r) = Some (stand_of r)

-- the names that were found, if any
abbrev pub names_of : Option Texts → Option (List (List ℕ))
names_of None = None
names_of (Some texts) = Some (texts_of texts)

-- after a space; more than two spaces count as two
abbrev pub space_step : Stand → Stand
space_step s =
    if nat_eq (length s.text) 0 then s
    else if nat_lt s.spaces 2 then record s { spaces = s.spaces + 1 }
    else s

-- after a byte that a name may contain
abbrev pub letter_step : Stand → ℕ → Option Stand
letter_step s b =
    if nat_eq (length s.text) 0 then
    (if nat_eq b SHARP then None else Some (record { list = s.list; text = b ∷ []; spaces = 0 }))
    else if nat_lt s.spaces 2 then
    (if nat_lt (length s.text + s.spaces) MOST_NAME_BYTES
    then Some (record { list = s.list; text = s.text ++ replicate s.spaces SPACE ++ b ∷ []; spaces = 0 })
    else None)
    else None

-- after a comma, which ends a name
abbrev pub comma_step : Stand → Option Stand
comma_step s =
    if nat_eq (length s.text) 0 then None
    else if nat_lt (length s.list) (MOST_NAMES - 1)
    then Some (record { list = s.list ++ s.text ∷ []; text = []; spaces = 0 })
    else None

-- after a byte of this class
abbrev pub name_step : Stand → Class → ℕ → Option Stand
name_step s Space b = Some (space_step s)
name_step s Sharp b = letter_step s b
name_step s Digit b = letter_step s b
name_step s Letter b = letter_step s b
name_step s Foreign b = if nat_eq b COMMA then comma_step s else None
name_step s _ b = None

-- after one more byte, or None if no names text continues this way
abbrev pub name_next : Option Stand → ℕ → Option Stand
name_next None b = None
name_next (Some s) b = name_step s (class_of b) b

-- after these bytes
abbrev pub name_run : Option Stand → List ℕ → Option Stand
name_run s [] = s
name_run s (b ∷ bs) = name_run (name_next s b) bs

-- the initial state
abbrev pub name_start : Stand
name_start = record { list = []; text = []; spaces = 0 }

-- the names, if the text may end here
abbrev pub names_at_end : Stand → Option (List (List ℕ))
names_at_end s = if nat_eq (length s.text) 0 then None else Some (s.list ++ s.text ∷ [])

-- The words and the parse of a line, as text.
use Rattle.std.specs.Prelude.{ℕ, List, [], ◌++◌, codes, get_or}
use Rattle.mud_words.specs.declared.Prep.{Prep}
use Rattle.mud_words.specs.Prepositions.{phrases_of}
use Rattle.mud_words.specs.Line.{Line}
use Rattle.std.specs.Option.{option_map_or}

-- a preposition by its first phrase
abbrev pub prep_text : Prep → List ℕ
prep_text prep = get_or (phrases_of prep) 0 []

-- the parse of a line
abbrev pub line_text : Line → List ℕ
line_text l =
    codes "verb [" ++ l.verb ++ codes "] direct [" ++ l.direct ++ codes "] preposition "
    ++ option_map_or prep_text l.prep (codes "-")
    ++ codes " indirect [" ++ l.indirect ++ codes "] rest [" ++ l.rest ++ codes "]"

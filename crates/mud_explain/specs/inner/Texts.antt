-- Parts of the output about units and lines.
use Rattle.std.specs.Prelude.{ℕ, ◌/◌, ◌%◌, List, [], ◌∷◌, ◌++◌, codes, Option}
use Rattle.std.specs.Option.{option_map_or}
use Rattle.std.specs.List.{flat_map}
use Rattle.mud_words.specs.declared.Prep.{Prep}
use Rattle.mud_nvt.specs.declared.codes.TheConstants.{SPACE}
use Rattle.mud_nvt.specs.Units.{Given}
use Rattle.mud_explain.specs.Units.{hex_digit, unit_text}
use Rattle.mud_explain.specs.Line.{prep_text}

-- a byte as two such digits, after a space
abbrev pub byte_text : ℕ → List ℕ
byte_text b = SPACE ∷ hex_digit (b / 16) ∷ hex_digit (b % 16) ∷ []

-- the lines of units
abbrev pub units_text : List Given → List ℕ
units_text given = flat_map (λ unit. unit_text unit ++ codes "\n") given

-- the preposition of a line, or `-`
abbrev pub preposition_text : Option Prep → List ℕ
preposition_text prep = option_map_or prep_text prep (codes "-")

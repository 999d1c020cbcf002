-- The explanation of an input.
use Rattle.std.specs.Prelude.{◌≡◌, ℕ, List, ◌++◌, Option, codes}
use mathlib.Core.List.{IsPrefix}
use Rattle.std.specs.Io.KnownBytes.{Appends}
use Rattle.std.specs.Str.{IsUtf8}
use Rattle.mud_nvt.specs.Units.{units}
use Rattle.mud_words.specs.Words.{words}
use Rattle.mud_words.specs.Parse.{parse_of}
use Rattle.mud_key.specs.Finds.{names_in}
use Rattle.mud_cli.specs.declared.subject.Reading.{Reading}
use Rattle.mud_cli.specs.declared.subject.Reading.TheVariants.{Words, Parse, Names, Key}
use Rattle.mud_cli.specs.declared.subject.Subject.{Subject}
use Rattle.mud_cli.specs.declared.subject.Subject.TheVariants.{Units, Lines}
use Rattle.mud_explain.specs.Lines.{Answers}
use Rattle.mud_explain.specs.Brackets.{bracket_all}
use Rattle.mud_explain.specs.Line.{line_text}
use Rattle.mud_explain.specs.Key.{SaysKey}
use Rattle.std.specs.List.{flat_map}
use Rattle.mud_explain.specs.Units.{unit_text}
use Rattle.std.specs.Option.{option_map_or}

-- the explanation of a text
abbrev pub SaysText : Reading → List ℕ → List ℕ → Type 0
SaysText Words text answer = answer ≡ bracket_all (words text)
SaysText Parse text answer = answer ≡ line_text (parse_of text)
SaysText Names text answer = answer ≡ option_map_or bracket_all (names_in text) (codes "bad names")
SaysText Key text answer = SaysKey text answer

-- the explanation of a line; bytes that are not UTF-8 are not a text
pub data Says (reading : Reading) (line answer : List ℕ) : Type 0 where
  a_text : IsUtf8 line → SaysText reading line answer → Says reading line answer
  no_text : (IsUtf8 line → ⊥) → answer ≡ codes "not text" → Says reading line answer

-- the output for an input
abbrev pub Explains : Subject → List ℕ → List ℕ → Type 0
Explains Units input out = out ≡ flat_map (λ unit. unit_text unit ++ codes "\n") (units input)
Explains (Lines reading) input out = Answers (Says reading) input out

-- the explanation of the input was written
abbrev pub Writes : Subject → List ℕ → Option (List ℕ) → Option (List ℕ) → Type 0
Writes subject input held now_held = (out : List ℕ) × Explains subject input out × Appends held now_held out

-- a prefix of the explanation of the input was written
abbrev pub WritesFront : Subject → List ℕ → Option (List ℕ) → Option (List ℕ) → Type 0
WritesFront subject input held now_held =
    (out : List ℕ) × (front : List ℕ) × Explains subject input out × IsPrefix front out × Appends held now_held front

-- The models of the code's private values, which only private clauses cite.
use Rattle.std.specs.Prelude.{ℕ, ◌+◌, List, map, length}
use Rattle.std.specs.Cow.{cow_str_bytes}
use Rattle.std.specs.Borrow.{Bor}
use Rattle.mud_words.specs.Prepositions.{Phrase, Found, preposition_of}
use Rattle.mud_words.specs.Line.{Line}
use Rattle.mud_words.specs.declared.codes.TheConstants.{SPACE}
use Rattle.mud_words.specs.declared.Prep.{Prep}
use Rattle.mud_words.specs.declared.split.Objects.{Objects}
use Rattle.mud_words.specs.declared.prepositions.Spot.{Spot}
use Rattle.mud_words.specs.Parse.{round}
use Rattle.std.specs.List.{join_with_byte}

-- the preposition, and the places of its first word and of the word after it
abbrev pub spot_of : Found → Spot
spot_of f = record { prep = f.phrase.prep; start = f.place; end = f.place + length f.phrase.words }

-- the preposition, and the number of its words
abbrev pub phrase_len : Phrase → Prep × ℕ
phrase_len p = (p.prep, length p.words)

-- the texts of a row of the code's table
abbrev pub texts : List (Bor (List ℕ)) → List (List ℕ)
texts phrase = map (λ t. t.now) phrase

-- a row of the code's table
abbrev pub row_shown : Prep × Bor (List (Bor (List ℕ))) → Phrase
row_shown p = record { prep = p.0; words = texts p.1.now }

-- a line with these objects
abbrev pub line_with : List ℕ → List (List ℕ) → List ℕ → Objects → Line
line_with verb args rest o = record {
  verb = verb;
  args = args;
  direct = cow_str_bytes o.direct;
  prep = o.prep;
  indirect = cow_str_bytes o.indirect;
  rest = rest;
}

-- the arguments split at the preposition that counts
abbrev pub split : List ℕ → List (List ℕ) → List ℕ → Line
split verb args rest = round verb args rest (preposition_of args)

-- the words joined by one space
abbrev pub join_words : List (List ℕ) → List ℕ
join_words ws = join_with_byte SPACE ws

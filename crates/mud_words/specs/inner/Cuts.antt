-- Steps of the code, which only private clauses cite: the words of a line from a place in its middle on. At the start
-- of a line, where no word is open, `rest_words` is the words of the line.
use Rattle.std.specs.Prelude.{ℕ, List, [], ◌∷◌, ◌++◌, Option, Some, None}
use Rattle.std.specs.List.{slice_split}
use Rattle.mud_words.specs.declared.piece.Piece.{Piece}
use Rattle.mud_words.specs.inner.Pieces.{is_gap, text_of, texts_of}

-- the open word continued by the first stretch, then the words of the other stretches
abbrev pub goes_on : List ℕ → List (List Piece) → List (List ℕ)
goes_on word [] = word ∷ []
goes_on word (stretch ∷ stretches) = (word ++ text_of stretch) ∷ texts_of stretches

-- the words of the remaining pieces, if the word before them may continue
abbrev pub rest_words : Option (List ℕ) → List Piece → List (List ℕ)
rest_words None ps = texts_of (slice_split is_gap ps)
rest_words (Some word) ps = goes_on word (slice_split is_gap ps)

-- the open word, or the empty word
abbrev pub open_word : Option (List ℕ) → List ℕ
open_word None = []
open_word (Some word) = word

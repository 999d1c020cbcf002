-- The role of each byte of a line in its words.
use Rattle.std.specs.Prelude.{ℕ, Bool, true, false, not, ◌&&◌, ◌||◌, ◌==◌, if◌then◌else◌, List, [], ◌∷◌}
use Rattle.std.specs.Prelude.{filter, map}
use Rattle.std.specs.List.{flat_map}
use Rattle.mud_words.specs.declared.codes.TheConstants.{SPACE, QUOTE, BACKSLASH}
use Rattle.mud_words.specs.declared.piece.Piece.{Piece}
use Rattle.mud_words.specs.declared.piece.Piece.TheVariants.{Gap, Mark, Char}

-- ---- the role of a byte
-- A byte is a gap (a space between words), a mark (a quote or a backslash that belongs to a word without being one of
-- its characters) or a character. The flags say whether a quote is open and whether a backslash comes right before.
abbrev pub piece : Bool → Bool → ℕ → Piece
piece quoted escaped b =
    if not escaped && (b == BACKSLASH || b == QUOTE) then Mark
    else if not escaped && not quoted && b == SPACE then Gap
    else Char b

-- true if a quote is open after the byte
abbrev pub quoted_after : Bool → Bool → ℕ → Bool
quoted_after quoted escaped b = if not escaped && b == QUOTE then not quoted else quoted

-- true if the byte makes the next one stand for itself
abbrev pub escaped_after : Bool → ℕ → Bool
escaped_after escaped b = not escaped && b == BACKSLASH

-- the role of each byte of a line; the laws of `laws.rt` describe whole lines by the grammar in Grammar.antt
abbrev pub pieces_from : Bool → Bool → List ℕ → List Piece
pieces_from quoted escaped [] = []
pieces_from quoted escaped (b ∷ bs) =
    piece quoted escaped b ∷ pieces_from (quoted_after quoted escaped b) (escaped_after escaped b) bs

abbrev pub pieces : List ℕ → List Piece
pieces line = pieces_from false false line

abbrev pub is_gap : Piece → Bool
is_gap Gap = true
is_gap Mark = false
is_gap (Char b) = false

-- ---- the stretches between gaps
-- a stretch is a word if it is not empty: a quote or a backslash is enough
abbrev pub is_word : List Piece → Bool
is_word [] = false
is_word (p ∷ ps) = true

abbrev pub chars_of : Piece → List ℕ
chars_of Gap = []
chars_of Mark = []
chars_of (Char b) = b ∷ []

-- the characters of a stretch
abbrev pub text_of : List Piece → List ℕ
text_of stretch = flat_map chars_of stretch

-- the texts of the stretches that are words
abbrev pub texts_of : List (List Piece) → List (List ℕ)
texts_of stretches = map text_of (filter is_word stretches)

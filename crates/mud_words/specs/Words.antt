-- The words of a line, a list of bytes.
use Rattle.std.specs.Prelude.{ℕ, ◌+◌, Bool, ◌==◌, if◌then◌else◌, List, [], ◌∷◌, ◌++◌}
use Rattle.std.specs.Prelude.{drop, reverse, codes}
use Rattle.std.specs.List.{slice_split, list_all, position_or_len}
use Rattle.mud_words.specs.declared.codes.TheConstants.{SPACE, QUOTE, COLON, SEMICOLON}
use Rattle.mud_words.specs.inner.Pieces.{pieces, is_gap, texts_of}

-- the words of a line without shorthand. A reader need not look into this: the law `laws::grammar` gives them
abbrev pub plain_words : List ℕ → List (List ℕ)
plain_words line = texts_of (slice_split is_gap (pieces line))

-- the text after the first word. A reader need not look into this: the law `laws::rest` characterizes it
abbrev pub after_first_word : List ℕ → List ℕ
after_first_word line = drop (position_or_len is_gap (pieces line) + 1) line

-- ---- spaces and shorthand
abbrev pub is_space : ℕ → Bool
is_space b = b == SPACE

-- a text without its leading spaces
abbrev pub without_front : List ℕ → List ℕ
without_front [] = []
without_front (b ∷ bs) = if is_space b then without_front bs else b ∷ bs

-- a text without its trailing spaces
abbrev pub without_back : List ℕ → List ℕ
without_back text = reverse (without_front (reverse text))

-- a line with its shorthand spelled out: a first byte `"`, `:` or `;` stands for a word
abbrev pub spelled_out : List ℕ → List ℕ
spelled_out [] = []
spelled_out (b ∷ bs) =
    (if b == QUOTE then codes "say "
    else if b == COLON then codes "emote "
    else if b == SEMICOLON then codes "eval "
    else b ∷ [])
    ++ bs

-- the words of a line, with its shorthand spelled out
unfoldable pub words : List ℕ → List (List ℕ)
words line = plain_words (spelled_out (without_front line))

-- a line is blank if all its characters are spaces
abbrev pub is_blank : List ℕ → Bool
is_blank line = list_all is_space line

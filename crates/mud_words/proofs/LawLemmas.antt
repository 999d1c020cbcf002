-- The laws of the words of a line.
use Rattle.std.proofs.Common.{◌≡◌, ℕ, ◌==◌, Bool, true, false, not, ◌&&◌, ◌||◌, cond, eqb, List, [], ◌∷◌, ◌++◌, map}
use Rattle.std.proofs.Common.{if◌then◌else◌}
use Rattle.std.proofs.Common.{filter, None, refl, sym, ap, ◌∙◌, append_assoc}
use Rattle.std.specs.List.{slice_split, onto_first, flat_map, join_with_byte, list_all}
use Rattle.std.proofs.lemmas.List.{append-nil}
use Rattle.std.proofs.lemmas.Bool.{false≢true}
use Rattle.mud_words.specs.declared.codes.TheConstants.{SPACE, QUOTE, BACKSLASH}
use Rattle.mud_words.specs.declared.piece.Piece.{Piece}
use Rattle.mud_words.specs.declared.piece.Piece.TheVariants.{Gap, Char}
use Rattle.mud_words.specs.Words.{plain_words, is_space}
use Rattle.mud_words.specs.inner.Pieces.{pieces_from, pieces, is_gap, text_of, texts_of}
use Rattle.mud_words.specs.Laws.{is_mark, in_quotes, is_empty}
use Rattle.mud_words.specs.inner.Cuts.{goes_on}
use Rattle.mud_words.proofs.CuttingLemmas.{onto, more_mark, mark}

-- ---- quoted words
-- a byte inside quotes: a backslash precedes each quote and each backslash
abbrev guarded : ℕ → List ℕ
guarded b = if is_mark b then BACKSLASH ∷ b ∷ [] else b ∷ []

-- the words of a text that continues this word, with these flags
abbrev goes : List ℕ → Bool → Bool → List ℕ → List (List ℕ)
goes word quoted escaped text = goes_on word (slice_split is_gap (pieces_from quoted escaped text))

-- a guarded byte inside quotes adds itself, whichever test recognizes it as a mark
guarded_goes : (word : List ℕ) (b : ℕ) (rest : List ℕ) (quote backslash : Bool) → eqb b QUOTE ≡ quote
    → eqb b BACKSLASH ≡ backslash
    → goes word true false (cond (quote || backslash) (BACKSLASH ∷ b ∷ []) (b ∷ []) ++ rest)
    ≡ goes (word ++ b ∷ []) true false rest
guarded_goes word b rest true backslash is_quote is_backslash =
    more_mark word _ ∙ onto word b (slice_split is_gap (pieces_from true false rest))
guarded_goes word b rest false true is_quote is_backslash =
    more_mark word _ ∙ onto word b (slice_split is_gap (pieces_from true false rest))
guarded_goes word b rest false false is_quote is_backslash =
    rw (is_quote, is_backslash) (onto word b (slice_split is_gap (pieces_from true false rest)))

inside : (word w rest : List ℕ) → goes word true false (flat_map guarded w ++ rest) ≡ goes (word ++ w) true false rest
inside word [] rest = ap (λ l. goes l true false rest) (sym (append-nil word))
inside word (b ∷ w) rest =
    ap (goes word true false) (append_assoc (guarded b) (flat_map guarded w) rest)
    ∙ guarded_goes word b (flat_map guarded w ++ rest) (eqb b QUOTE) (eqb b BACKSLASH) refl refl
    ∙ inside (word ++ b ∷ []) w rest
    ∙ ap (λ l. goes l true false rest) (append_assoc word (b ∷ []) w)

-- a quoted word, and the text after it
quoted_goes : (w rest : List ℕ) → plain_words (in_quotes w ++ rest) ≡ goes w false false rest
quoted_goes w rest =
    mark None (pieces_from true false ((flat_map guarded w ++ QUOTE ∷ []) ++ rest))
    ∙ ap (goes [] true false) (append_assoc (flat_map guarded w) (QUOTE ∷ []) rest)
    ∙ inside [] w (QUOTE ∷ rest)
    ∙ more_mark w (slice_split is_gap (pieces_from false false rest))

last_word : (w : List ℕ) → goes w false false [] ≡ w ∷ []
last_word w = ap (λ (l : List ℕ). l ∷ []) (append-nil w)

word_then : (w rest : List ℕ) → goes w false false (SPACE ∷ rest) ≡ w ∷ plain_words rest
word_then w rest = ap (λ (l : List ℕ). l ∷ plain_words rest) (append-nil w)

pub quoted_words : (ws : List (List ℕ)) → plain_words (join_with_byte SPACE (map in_quotes ws)) ≡ ws
quoted_words [] = refl
quoted_words (w ∷ []) = ap plain_words (sym (append-nil (in_quotes w))) ∙ quoted_goes w [] ∙ last_word w
quoted_words (w ∷ v ∷ vs) =
    quoted_goes w (SPACE ∷ join_with_byte SPACE (map in_quotes (v ∷ vs)))
    ∙ word_then w (join_with_byte SPACE (map in_quotes (v ∷ vs)))
    ∙ ap (λ (l : List (List ℕ)). w ∷ l) (quoted_words (v ∷ vs))

-- ---- a line without quotes and backslashes
both : (a b : Bool) → (a && b) ≡ true → (a ≡ true) × (b ≡ true)
both true b h = (refl, h)
both false b h = absurd (false≢true h)

no_mark : (quote backslash : Bool) → not (quote || backslash) ≡ true → (quote ≡ false) × (backslash ≡ false)
no_mark true backslash h = absurd (false≢true h)
no_mark false true h = absurd (false≢true h)
no_mark false false h = (refl, refl)

onto_chars : (b : ℕ) (parts : List (List ℕ))
    → onto_first (Char b) (map (map Char) parts) ≡ map (map Char) (onto_first b parts)
onto_chars b [] = refl
onto_chars b (part ∷ parts) = refl

plain_byte : (b : ℕ) (space : Bool) (ps : List Piece) (parts : List (List ℕ))
    → slice_split is_gap ps ≡ map (map Char) parts
    → slice_split is_gap (cond space Gap (Char b) ∷ ps) ≡ map (map Char) (cond space ([] ∷ parts) (onto_first b parts))
plain_byte b true ps parts h = ap (λ (l : List (List Piece)). [] ∷ l) h
plain_byte b false ps parts h = ap (onto_first (Char b)) h ∙ onto_chars b parts

plain_pieces : (line : List ℕ) → list_all (λ b. not (is_mark b)) line ≡ true
    → slice_split is_gap (pieces line) ≡ map (map Char) (slice_split is_space line)
plain_pieces [] all = refl
plain_pieces (b ∷ bs) all =
    let parts = both (not (is_mark b)) (list_all (λ b. not (is_mark b)) bs) all in
    let plain = no_mark (b == QUOTE) (b == BACKSLASH) parts.0 in
    rw (plain.0, plain.1) (plain_byte b (is_space b) (pieces bs) (slice_split is_space bs) (plain_pieces bs parts.1))

chars_text : (part : List ℕ) → text_of (map Char part) ≡ part
chars_text [] = refl
chars_text (b ∷ bs) = ap (λ (l : List ℕ). b ∷ l) (chars_text bs)

chars_texts : (parts : List (List ℕ)) → texts_of (map (map Char) parts) ≡ filter (λ word. not (is_empty word)) parts
chars_texts [] = refl
chars_texts ([] ∷ parts) = chars_texts parts
chars_texts ((b ∷ bs) ∷ parts) =
    ap (λ (l : List ℕ). (b ∷ l) ∷ texts_of (map (map Char) parts)) (chars_text bs)
    ∙ ap (λ (l : List (List ℕ)). (b ∷ bs) ∷ l) (chars_texts parts)

pub plain_lines : (line : List ℕ) → list_all (λ b. not (is_mark b)) line ≡ true
    → plain_words line ≡ filter (λ word. not (is_empty word)) (slice_split is_space line)
plain_lines line all = ap texts_of (plain_pieces line all) ∙ chars_texts (slice_split is_space line)

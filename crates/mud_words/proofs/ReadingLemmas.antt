-- The first word of a text, read byte by byte.
use Rattle.std.proofs.Common.{◌≡◌, ℕ, ◌+◌, ◌-◌, ◌<◌, ◌≤◌, Bool, true, false, cond, List, [], ◌∷◌, ◌++◌, length, take}
use Rattle.std.proofs.Common.{drop, map, get_or, Some, refl, sym, ap, ◌∙◌, append_assoc, arith}
use Rattle.std.specs.List.{slice_split, slice_range, onto_first, position_or_len}
use Rattle.std.specs.Str.{IsUtf8, IsCharBoundary}
use Rattle.std.proofs.lemmas.Bool.{eqb-true}
use Rattle.std.proofs.lemmas.List.{append-nil, take_more, take_all, get_or-drop, get_or_default, length-drop}
use Rattle.std.proofs.lemmas.List.{drop_more, drop_all, map_push}
use Rattle.std.proofs.lemmas.Str.{IsCharBoundary-after_ascii, IsCharBoundary-start}
use Rattle.mud_words.specs.declared.codes.TheConstants.{SPACE}
use Rattle.mud_words.specs.declared.piece.Piece.{Piece}
use Rattle.mud_words.specs.declared.piece.Piece.TheVariants.{Gap, Mark, Char}
use Rattle.mud_words.specs.inner.Pieces.{piece, quoted_after, escaped_after, is_gap, pieces_from, pieces, texts_of}
use Rattle.mud_words.specs.Words.{plain_words, after_first_word, is_space, without_front, spelled_out}
use Rattle.mud_words.specs.inner.Cuts.{goes_on, rest_words}
use Rattle.mud_words.proofs.PieceLemmas.{piece-low, of_char, from_gap, drop-past_one}
use Rattle.mud_words.proofs.CuttingLemmas.{onto, more_mark}
use Rattle.mud_words.proofs.BlankLemmas.{begins_blank, bare}

-- the words of these pieces when they continue a word
abbrev goes : List ℕ → List Piece → List (List ℕ)
goes word ps = goes_on word (slice_split is_gap ps)

-- the progress in the first word: the bytes copied so far, the start of the bytes not copied yet, the place of the next
-- byte, and the flags there
pub record Reading (text word : List ℕ) (start at : ℕ) (quoted escaped : Bool) : Type 0 where
  pub words : goes (word ++ slice_range text start at) (pieces_from quoted escaped (drop at text))
      ≡ goes [] (pieces text)
  pub rest : from_gap (pieces_from quoted escaped (drop at text)) (drop at text) ≡ after_first_word text
  pub in_order : start ≤ at
  pub boundary : IsCharBoundary text start

pub nothing_read : (text word : List ℕ) (quoted escaped : Bool) → IsUtf8 text → word ≡ [] → quoted ≡ false
    → escaped ≡ false → Reading text word 0 0 quoted escaped
nothing_read text word quoted escaped utf8 bare no_quote no_escape = rw (bare, no_quote, no_escape) (record {
  words = refl;
  rest = refl;
  in_order = omega arith;
  boundary = IsCharBoundary-start text utf8;
})

-- the byte at a place, its role, and the flags after it
pub record Next (text : List ℕ) (at b : ℕ) (quoted escaped : Bool) (p : Piece) (quoted' escaped' : Bool) : Type 0 where
  pub within : at < length text
  pub here : b ≡ get_or text at b
  pub is : p ≡ piece quoted escaped b
  pub quotes : quoted' ≡ quoted_after quoted escaped b
  pub escapes : escaped' ≡ escaped_after escaped b

pub next : (text bytes : List ℕ) (at : ℕ) (quoted escaped : Bool) (p : Piece) (quoted' escaped' : Bool) → bytes ≡ text
    → at < length bytes → p ≡ piece quoted escaped (get_or bytes at 0)
    → quoted' ≡ quoted_after quoted escaped (get_or bytes at 0) → escaped' ≡ escaped_after escaped (get_or bytes at 0)
    → Next text at (get_or text at 0) quoted escaped p quoted' escaped'
next text bytes at quoted escaped p quoted' escaped' same lt is quotes escapes =
    let b : get_or bytes at 0 ≡ get_or text at 0 = ap (λ (t : List ℕ). get_or t at 0) same in
    let within : at < length text = omega (arith, ap length same) in
    record {
      within = within;
      here = get_or_default text at 0 (get_or text at 0) within;
      is = is ∙ ap (piece quoted escaped) b;
      quotes = quotes ∙ ap (quoted_after quoted escaped) b;
      escapes = escapes ∙ ap (escaped_after escaped) b;
    }

cons_here : (text : List ℕ) (at b : ℕ) → at < length text → b ≡ get_or text at b
    → drop at text ≡ b ∷ drop (at + 1) text
cons_here text at b lt here = drop_more text at b lt ∙ ap (λ (x : ℕ). x ∷ drop (at + 1) text) (sym here)

next_piece : (text : List ℕ) (at b : ℕ) (quoted escaped : Bool) (p : Piece) (quoted' escaped' : Bool)
    → Next text at b quoted escaped p quoted' escaped'
    → pieces_from quoted escaped (drop at text) ≡ p ∷ pieces_from quoted' escaped' (drop (at + 1) text)
next_piece text at b quoted escaped p quoted' escaped' n =
    ap (pieces_from quoted escaped) (cons_here text at b n.within n.here) ∙ rw (n.is, n.quotes, n.escapes) refl

-- a byte that is not a gap is passed
past : (p : Piece) (b : ℕ) (ps : List Piece) (text : List ℕ) → (p ≡ Gap → ⊥)
    → from_gap (p ∷ ps) (b ∷ text) ≡ from_gap ps text
past Gap b ps text other = absurd (other refl)
past Mark b ps text other = drop-past_one _ b text
past (Char c) b ps text other = drop-past_one _ b text

past_here : (text : List ℕ) (at b : ℕ) (quoted escaped : Bool) (p : Piece) (quoted' escaped' : Bool)
    → Next text at b quoted escaped p quoted' escaped' → (p ≡ Gap → ⊥)
    → from_gap (pieces_from quoted' escaped' (drop (at + 1) text)) (drop (at + 1) text)
    ≡ from_gap (pieces_from quoted escaped (drop at text)) (drop at text)
past_here text at b quoted escaped p quoted' escaped' n other =
    sym (ap (λ (ps : List Piece). from_gap ps (drop at text)) (next_piece text at b quoted escaped p quoted' escaped' n)
    ∙ ap (from_gap (p ∷ pieces_from quoted' escaped' (drop (at + 1) text))) (cons_here text at b n.within n.here)
    ∙ past p b (pieces_from quoted' escaped' (drop (at + 1) text)) (drop (at + 1) text) other)

pub one_more : (text : List ℕ) (start at b : ℕ) → start ≤ at → at < length text → b ≡ get_or text at b
    → slice_range text start (at + 1) ≡ slice_range text start at ++ b ∷ []
one_more text start at b le lt here =
    let one : at + 1 - start ≡ at - start + 1 = omega arith in
    let same : start + (at - start) ≡ at = omega arith in
    ap (λ (n : ℕ). take n (drop start text)) one
    ∙ take_more (drop start text) (at - start) b (omega (arith, length-drop start text))
    ∙ ap (λ (x : ℕ). slice_range text start at ++ x ∷ [])
    (get_or-drop start text (at - start) b ∙ ap (λ (i : ℕ). get_or text i b) same ∙ sym here)

-- a plain byte
pub char_read : (text word : List ℕ) (start at b c : ℕ) (quoted escaped quoted' escaped' : Bool)
    → Next text at b quoted escaped (Char c) quoted' escaped' → Reading text word start at quoted escaped
    → Reading text word start (at + 1) quoted' escaped'
char_read text word start at b c quoted escaped quoted' escaped' n read =
    let ps : List Piece = pieces_from quoted' escaped' (drop (at + 1) text) in
    let copied : List ℕ = word ++ slice_range text start at in
    let same : c ≡ b = of_char _ _ b c n.is in
    record {
      words =
          ap (λ (w : List ℕ). goes (word ++ w) ps) (one_more text start at b read.in_order n.within n.here)
          ∙ ap (λ (w : List ℕ). goes w ps) (sym (append_assoc word (slice_range text start at) (b ∷ [])))
          ∙ ap (λ (x : ℕ). goes (copied ++ x ∷ []) ps) (sym same)
          ∙ sym (onto copied c (slice_split is_gap ps))
          ∙ sym (ap (goes copied) (next_piece text at b quoted escaped (Char c) quoted' escaped' n))
          ∙ read.words;
      rest =
          past_here text at b quoted escaped (Char c) quoted' escaped' n (λ (k : Char c ≡ Gap). cc) ∙ read.rest;
      in_order = omega arith;
      boundary = read.boundary;
    }

-- a byte that is not plain is ASCII
pub ascii_here : (text : List ℕ) (at b : ℕ) (quoted escaped : Bool) (p : Piece) (quoted' escaped' : Bool)
    → Next text at b quoted escaped p quoted' escaped' → (p ≡ Char b → ⊥) → get_or text at 0 < 128
ascii_here text at b quoted escaped p quoted' escaped' n other =
    let low : b < 128 = piece-low quoted escaped b (λ k. other (n.is ∙ k)) in
    let same : b ≡ get_or text at 0 = n.here ∙ get_or_default text at b 0 n.within in
    omega arith

pub none_left : (text : List ℕ) (at : ℕ) → slice_range text at at ≡ []
none_left text at = let none : at - at ≡ 0 = omega arith in ap (λ (n : ℕ). take n (drop at text)) none

-- a quote or a backslash
pub mark_read : (text word word' : List ℕ) (start at b : ℕ) (quoted escaped quoted' escaped' : Bool)
    → Next text at b quoted escaped Mark quoted' escaped' → IsUtf8 text → word' ≡ word ++ slice_range text start at
    → Reading text word start at quoted escaped → Reading text word' (at + 1) (at + 1) quoted' escaped'
mark_read text word word' start at b quoted escaped quoted' escaped' n utf8 copied read =
    let ps : List Piece = pieces_from quoted' escaped' (drop (at + 1) text) in
    record {
      words =
          ap (λ (w : List ℕ). goes (word' ++ w) ps) (none_left text (at + 1))
          ∙ ap (λ (w : List ℕ). goes w ps) (append-nil word' ∙ copied)
          ∙ sym (more_mark (word ++ slice_range text start at) (slice_split is_gap ps))
          ∙ sym (ap (goes (word ++ slice_range text start at))
          (next_piece text at b quoted escaped Mark quoted' escaped' n))
          ∙ read.words;
      rest = past_here text at b quoted escaped Mark quoted' escaped' n (λ (k : Mark ≡ Gap). cc) ∙ read.rest;
      in_order = omega arith;
      boundary =
          IsCharBoundary-after_ascii text at utf8 n.within
          (ascii_here text at b quoted escaped Mark quoted' escaped' n (λ (k : Mark ≡ Char b). cc));
    }

pub gap_rest : (text word : List ℕ) (start at b : ℕ) (quoted escaped quoted' escaped' : Bool)
    → Next text at b quoted escaped Gap quoted' escaped' → Reading text word start at quoted escaped
    → drop (at + 1) text ≡ after_first_word text
gap_rest text word start at b quoted escaped quoted' escaped' n read =
    let ps : List Piece = pieces_from quoted' escaped' (drop (at + 1) text) in
    sym (ap (λ (l : List Piece). from_gap l (drop at text)) (next_piece text at b quoted escaped Gap quoted' escaped' n)
    ∙ ap (from_gap (Gap ∷ ps)) (cons_here text at b n.within n.here))
    ∙ read.rest

-- the end of the text
pub end_words : (text word word' : List ℕ) (start at : ℕ) (quoted escaped : Bool) → length text ≤ at
    → word' ≡ word ++ drop start text → Reading text word start at quoted escaped
    → rest_words (Some []) (pieces text) ≡ word' ∷ plain_words []
end_words text word word' start at quoted escaped end copied read =
    sym read.words
    ∙ ap (λ (t : List ℕ). goes (word ++ slice_range text start at) (pieces_from quoted escaped t))
    (drop_all at text end)
    ∙ ap (λ (w : List ℕ). w ∷ []) (append-nil (word ++ slice_range text start at)
    ∙ ap (λ (w : List ℕ). word ++ w) (take_all (at - start) (drop start text) (omega (arith, length-drop start text)))
    ∙ sym copied)

-- ---- the words of a text, one by one
-- a text that does not begin with a space has a first word and the words after it
begun_with : (p : Piece) (parts : List (List Piece)) → texts_of (onto_first p parts) ≡ goes_on [] (onto_first p parts)
begun_with p [] = refl
begun_with p (part ∷ parts) = refl

begun_by : (mark : Bool) (b : ℕ) (ps : List Piece)
    → texts_of (slice_split is_gap (cond mark Mark (Char b) ∷ ps)) ≡ goes [] (cond mark Mark (Char b) ∷ ps)
begun_by true b ps = begun_with Mark (slice_split is_gap ps)
begun_by false b ps = begun_with (Char b) (slice_split is_gap ps)

-- a text without leading spaces
pub record Trimmed (text : List ℕ) : Type 0 where
  pub trimmed : begins_blank text ≡ false

pub words_begun : (text : List ℕ) → Trimmed text → 0 < length text
    → plain_words text ≡ rest_words (Some []) (pieces text)
words_begun [] t some = absurd (omega arith)
words_begun (b ∷ bs) t some =
    let other : is_space b ≡ false = t.trimmed in
    rw other (begun_by _ b (pieces_from (quoted_after false false b) (escaped_after false b) bs))

pub without_front-trimmed : (text : List ℕ) → Trimmed (without_front text)
without_front-trimmed text = record { trimmed = bare text }

pub without_front-words : (text : List ℕ) → plain_words (without_front text) ≡ plain_words text
without_front-words [] = refl
without_front-words (b ∷ bs) = front b bs (is_space b) refl (without_front-words bs)
  where
    front : (b : ℕ) (bs : List ℕ) (t : Bool) → is_space b ≡ t → plain_words (without_front bs) ≡ plain_words bs
        → plain_words (cond t (without_front bs) (b ∷ bs)) ≡ plain_words (b ∷ bs)
    front b bs true is rest = rest ∙ sym (ap (λ (c : ℕ). plain_words (c ∷ bs)) (eqb-true b SPACE is))
    front b bs false is rest = refl

pub without_front-length : (text : List ℕ) → length (without_front text) ≤ length text
without_front-length [] = omega arith
without_front-length (b ∷ bs) = front b bs (is_space b) (without_front-length bs)
  where
    front : (b : ℕ) (bs : List ℕ) (t : Bool) → length (without_front bs) ≤ length bs
        → length (cond t (without_front bs) (b ∷ bs)) ≤ length (b ∷ bs)
    front b bs true le = omega arith
    front b bs false le = omega arith

-- the text after the first word is shorter
pub less_left : (text rest text' : List ℕ) → 0 < length text → rest ≡ after_first_word text → text' ≡ without_front rest
    → length text' < length text
less_left text rest text' some behind left =
    rw (left, behind)
    (omega (
      arith,
      without_front-length (after_first_word text),
      length-drop (position_or_len is_gap (pieces text) + 1) text,
    ))

-- the words so far followed by those of the remaining text, after its first word is taken
pub word_taken : {X : Type 0} (f : X → List ℕ) (xs xs' : List X) (x : X) (text rest text' : List ℕ) → Trimmed text
    → 0 < length text → rest_words (Some []) (pieces text) ≡ f x ∷ plain_words rest → xs' ≡ xs ++ x ∷ []
    → text' ≡ without_front rest → map f xs' ++ plain_words text' ≡ map f xs ++ plain_words text
word_taken f xs xs' x text rest text' trimmed some taken pushed left =
    rw (pushed, left)
    (ap (λ (ws : List (List ℕ)). map f (xs ++ x ∷ []) ++ ws) (without_front-words rest)
    ∙ ap (λ (ws : List (List ℕ)). ws ++ plain_words rest) (map_push f xs x)
    ∙ append_assoc (map f xs) (f x ∷ []) (plain_words rest)
    ∙ ap (λ (ws : List (List ℕ)). map f xs ++ ws) (sym taken ∙ sym (words_begun text trimmed some)))

pub front_taken : (ws : List (List ℕ)) (text text' : List ℕ) → text' ≡ without_front text
    → ws ++ plain_words text' ≡ ws ++ plain_words text
front_taken ws text text' is = ap (λ (l : List (List ℕ)). ws ++ l) (ap plain_words is ∙ without_front-words text)

pub front_trimmed : (text text' : List ℕ) → text' ≡ without_front text → Trimmed text'
front_trimmed text text' is = rw is (without_front-trimmed text)

-- a text without leading spaces stays
kept : (text : List ℕ) → begins_blank text ≡ false → without_front text ≡ text
kept [] bare = refl
kept (b ∷ bs) bare = rw bare refl

pub front_kept : (text text' : List ℕ) → text' ≡ without_front text → without_front text' ≡ text'
front_kept text text' is = let trim : Trimmed text' = front_trimmed text text' is in kept text' trim.trimmed

-- the words of a line without shorthand and leading spaces
pub line_begun : (line word rest : List ℕ) → without_front line ≡ line → 0 < length line → spelled_out line ≡ line
    → rest_words (Some []) (pieces line) ≡ word ∷ plain_words rest
    → plain_words (spelled_out line) ≡ word ∷ plain_words rest
line_begun line word rest is some plain taken =
    ap plain_words plain ∙ words_begun line (front_trimmed line line (sym is)) some ∙ taken

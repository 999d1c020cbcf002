-- A text cut at its spaces, up to its first quote or backslash.
use Rattle.std.proofs.Common.{◌≡◌, ◌≢◌, ℕ, ◌+◌, ◌-◌, ◌<◌, ◌≤◌, Bool, true, false, cond, ◌&&◌, IsTrue, List, [], ◌∷◌}
use Rattle.std.proofs.Common.{◌++◌, length, take, drop, map, reverse, get_or, Option, None, Some, refl, sym, ap, subst}
use Rattle.std.proofs.Common.{◌∙◌, append_assoc, le_antisymm, arith}
use Rattle.std.specs.List.{slice_range, flat_map, list_all}
use Rattle.std.specs.Str.{IsUtf8, IsCharBoundary}
use Rattle.std.proofs.lemmas.Bool.{eqb-true, false≢true}
use Rattle.std.proofs.lemmas.List.{append-nil, take_more, take_at, drop_at, drop_more, length-take, length-drop}
use Rattle.std.proofs.lemmas.List.{length-append, get_or_default, get_or-take}
use Rattle.std.proofs.lemmas.List.{reverse-append, reverse-reverse, take-append-drop, take-take, drop-take}
use Rattle.std.proofs.lemmas.List.{flat_map_more}
use Rattle.std.proofs.lemmas.List.Folds.{list_all-append}
use Rattle.std.proofs.lemmas.Str.{IsCharBoundary-start, IsCharBoundary-after_ascii, IsCharBoundary-from_take}
use Rattle.mud_words.specs.declared.codes.TheConstants.{SPACE, QUOTE, BACKSLASH}
use Rattle.mud_words.specs.Words.{plain_words, is_space, without_front, without_back}
use Rattle.mud_words.specs.inner.Pieces.{pieces}
use Rattle.mud_words.specs.inner.Cuts.{rest_words}
use Rattle.mud_words.specs.inner.Spots.{join_words}
use Rattle.mud_words.proofs.ReadingLemmas.{none_left, one_more}
use Rattle.mud_words.proofs.GrammarLemmas.{plain_goes, plain_begins}

-- ---- the open word
-- a word, once it has a byte
abbrev pub opened : List ℕ → Option (List ℕ)
opened [] = None
opened (b ∷ bs) = Some (b ∷ bs)

-- a plain byte continues the word or begins one
plain_byte : (word : List ℕ) (b : ℕ) (rest : List ℕ) → b ≢ SPACE → b ≢ QUOTE → b ≢ BACKSLASH
    → rest_words (opened word) (pieces (b ∷ rest)) ≡ rest_words (opened (word ++ b ∷ [])) (pieces rest)
plain_byte [] b rest space quote slash = plain_begins b rest space quote slash
plain_byte (c ∷ cs) b rest space quote slash = plain_goes (c ∷ cs) b rest space quote slash

-- a space ends the word
space_byte : (word rest : List ℕ) → 0 < length word
    → rest_words (opened word) (pieces (SPACE ∷ rest)) ≡ word ∷ plain_words rest
space_byte [] rest some = absurd (omega arith)
space_byte (c ∷ cs) rest some = ap (λ (w : List ℕ). w ∷ plain_words rest) (append-nil (c ∷ cs))

both : (a b : Bool) → (a && b) ≡ true → (a ≡ true) × (b ≡ true)
both true b h = (refl, h)
both false b h = absurd (false≢true h)

pub no_words : (text : List ℕ) → list_all is_space text ≡ true → plain_words text ≡ []
no_words [] spaces = refl
no_words (b ∷ bs) spaces =
    let h = both (is_space b) (list_all is_space bs) spaces in
    ap (λ (c : ℕ). plain_words (c ∷ bs)) (eqb-true b SPACE h.0) ∙ no_words bs h.1

-- if only spaces follow, the word is the last
last_word : (word text : List ℕ) → 0 < length word → list_all is_space text ≡ true
    → rest_words (opened word) (pieces text) ≡ word ∷ []
last_word [] text some spaces = absurd (omega arith)
last_word (c ∷ cs) [] some spaces = ap (λ (w : List ℕ). w ∷ []) (append-nil (c ∷ cs))
last_word (c ∷ cs) (b ∷ bs) some spaces =
    let h = both (is_space b) (list_all is_space bs) spaces in
    ap (λ (x : ℕ). rest_words (Some (c ∷ cs)) (pieces (x ∷ bs))) (eqb-true b SPACE h.0)
    ∙ space_byte (c ∷ cs) bs some
    ∙ ap (λ (ws : List (List ℕ)). (c ∷ cs) ∷ ws) (no_words bs h.1)

-- ---- trailing spaces
spaces_in_front : (text : List ℕ) → (s : List ℕ) × (list_all is_space s ≡ true) × (text ≡ s ++ without_front text)
spaces_in_front [] = ([], refl, refl)
spaces_in_front (b ∷ bs) = front (is_space b) refl (spaces_in_front bs)
  where
    front : (t : Bool) → is_space b ≡ t
        → (s : List ℕ) × (list_all is_space s ≡ true) × (bs ≡ s ++ without_front bs)
        → (s : List ℕ) × (list_all is_space s ≡ true) × (b ∷ bs ≡ s ++ cond t (without_front bs) (b ∷ bs))
    front true is rest =
        (b ∷ rest.0, rw is rest.1, ap (λ (l : List ℕ). b ∷ l) rest.2)
    front false is rest = ([], refl, refl)

spaces_reversed : (s : List ℕ) → list_all is_space s ≡ true → list_all is_space (reverse s) ≡ true
spaces_reversed [] spaces = refl
spaces_reversed (b ∷ bs) spaces =
    let h = both (is_space b) (list_all is_space bs) spaces in
    ap (list_all is_space) (reverse-append (b ∷ []) bs)
    ∙ list_all-append is_space (reverse bs) (b ∷ [])
    ∙ rw (spaces_reversed bs h.1, h.0) refl

-- a text without its trailing spaces is its first bytes, and the others are spaces
pub record Back (text rest : List ℕ) : Type 0 where
  pub front : rest ≡ take (length rest) text
  pub spaces : list_all is_space (drop (length rest) text) ≡ true
  pub within : length rest ≤ length text

pub back : (text rest : List ℕ) → rest ≡ without_back text → Back text rest
back text rest is =
    let s = spaces_in_front (reverse text) in
    let parts : text ≡ without_back text ++ reverse s.0 =
    sym (reverse-reverse text) ∙ ap reverse s.2 ∙ reverse-append s.0 (without_front (reverse text)) in
    let same : text ≡ rest ++ reverse s.0 = parts ∙ ap (λ (l : List ℕ). l ++ reverse s.0) (sym is) in
    record {
      front = sym (ap (take (length rest)) same ∙ take_at rest (reverse s.0) (length rest) refl);
      spaces =
          ap (λ (l : List ℕ). list_all is_space (drop (length rest) l)) same
          ∙ ap (list_all is_space) (drop_at rest (reverse s.0) (length rest) refl)
          ∙ spaces_reversed s.0 s.1;
      within = omega (arith, ap length same, length-append rest (reverse s.0));
    }

pub back_byte : (text rest bytes : List ℕ) (at : ℕ) → Back text rest → bytes ≡ rest → at < length bytes
    → (at < length text) × (get_or text at 0 ≡ get_or bytes at 0)
back_byte text rest bytes at b same lt = (
  omega (arith, ap length same, b.within),
  sym (ap (λ (l : List ℕ). get_or l at 0) (same ∙ b.front)
      ∙ get_or-take (length rest) text at 0 (omega (arith, ap length same))),
)

pub back_boundary : (text rest : List ℕ) → Back text rest → IsUtf8 text → IsUtf8 rest
    → IsCharBoundary text (length rest)
back_boundary text rest b utf8 utf8' =
    IsCharBoundary-from_take text (length rest) utf8 b.within (subst IsUtf8 b.front utf8')

-- ---- the words cut so far
-- these words, each with a space behind it
abbrev pub spaced : List (List ℕ) → List ℕ
spaced ws = flat_map (λ w. w ++ SPACE ∷ []) ws

-- the progress in a text without trailing spaces: the words pushed, the start of the open word, the place of the next
-- byte, and whether one space stands behind each word so far
pub record Cutting {X : Type 0} (f : X → List ℕ) (xs ys : List X) (text : List ℕ) (start at : ℕ) (joined : Bool)
    : Type 0 where
  pub cut : List (List ℕ)
  pub pushed : map f ys ≡ map f xs ++ cut
  pub words : cut ++ plain_words (drop start text) ≡ plain_words text
  pub ahead : rest_words (opened (slice_range text start at)) (pieces (drop at text)) ≡ plain_words (drop start text)
  pub single : IsTrue joined → spaced cut ≡ take start text
  pub in_order : start ≤ at
  pub boundary : IsCharBoundary text start

pub nothing_cut : {X : Type 0} (f : X → List ℕ) (xs : List X) (text : List ℕ) → IsUtf8 text
    → Cutting f xs xs text 0 0 true
nothing_cut f xs text utf8 = record {
  cut = [];
  pushed = sym (append-nil (map f xs));
  words = refl;
  ahead = refl;
  single = λ _. refl;
  in_order = omega arith;
  boundary = IsCharBoundary-start text utf8;
}

-- after a plain byte
pub plain_cut : {X : Type 0} (f : X → List ℕ) (xs ys : List X) (text : List ℕ) (start at : ℕ) (joined : Bool)
    → at < length text → get_or text at 0 ≢ SPACE → get_or text at 0 ≢ QUOTE → get_or text at 0 ≢ BACKSLASH
    → Cutting f xs ys text start at joined → Cutting f xs ys text start (at + 1) joined
plain_cut f xs ys text start at joined lt space quote slash c =
    let b : ℕ = get_or text at 0 in
    let more : slice_range text start (at + 1) ≡ slice_range text start at ++ b ∷ [] =
    one_more text start at b c.in_order lt (get_or_default text at 0 b lt) in
    let here : drop at text ≡ b ∷ drop (at + 1) text = drop_more text at 0 lt in
    record {
      cut = c.cut;
      pushed = c.pushed;
      words = c.words;
      ahead =
          ap (λ (w : List ℕ). rest_words (opened w) (pieces (drop (at + 1) text))) more
          ∙ sym (plain_byte (slice_range text start at) b (drop (at + 1) text) space quote slash)
          ∙ sym (ap (λ (l : List ℕ). rest_words (opened (slice_range text start at)) (pieces l)) here)
          ∙ c.ahead;
      single = c.single;
      in_order = omega arith;
      boundary = c.boundary;
    }

-- the text up to a place is the text up to an earlier one and what lies between
up_to : (text : List ℕ) (start at : ℕ) → start ≤ at → take start text ++ slice_range text start at ≡ take at text
up_to text start at le =
    let parts : start + (at - start) ≡ at = omega arith in
    ap (λ (l : List ℕ). l ++ slice_range text start at) (sym (take-take start at text le))
    ∙ ap (λ (l : List ℕ). take start (take at text) ++ l)
    (sym (drop-take start (at - start) text) ∙ ap (λ (n : ℕ). drop start (take n text)) parts)
    ∙ take-append-drop start (take at text)

some_open : (text : List ℕ) (start at : ℕ) → start < at → at ≤ length text → 0 < length (slice_range text start at)
some_open text start at lt le = simp (length-take, length-drop) (omega arith)

-- after a space that ends a word
pub word_cut : {X : Type 0} (f : X → List ℕ) (xs ys zs : List X) (text : List ℕ) (start at : ℕ) (joined : Bool)
    → IsUtf8 text → at < length text → get_or text at 0 ≡ SPACE → start < at
    → map f zs ≡ map f ys ++ slice_range text start at ∷ [] → Cutting f xs ys text start at joined
    → Cutting f xs zs text (at + 1) (at + 1) joined
word_cut f xs ys zs text start at joined utf8 lt is some pushed c =
    let word : List ℕ = slice_range text start at in
    let left : List ℕ = drop (at + 1) text in
    let here : drop at text ≡ SPACE ∷ left = drop_more text at 0 lt ∙ ap (λ (b : ℕ). b ∷ left) is in
    let ends : word ∷ plain_words left ≡ plain_words (drop start text) =
    sym (space_byte word left (some_open text start at some (omega arith)))
    ∙ sym (ap (λ (l : List ℕ). rest_words (opened word) (pieces l)) here) ∙ c.ahead in
    record {
      cut = c.cut ++ word ∷ [];
      pushed =
          pushed ∙ ap (λ (ws : List (List ℕ)). ws ++ word ∷ []) c.pushed ∙ append_assoc (map f xs) c.cut (word ∷ []);
      words =
          append_assoc c.cut (word ∷ []) (plain_words left) ∙ ap (λ (ws : List (List ℕ)). c.cut ++ ws) ends ∙ c.words;
      ahead =
          ap (λ (w : List ℕ). rest_words (opened w) (pieces left)) (none_left text (at + 1));
      single = λ one.
          sym (flat_map_more (λ (w : List ℕ). w ++ SPACE ∷ []) [] c.cut word)
          ∙ ap (λ (l : List ℕ). l ++ (word ++ SPACE ∷ [])) (c.single one)
          ∙ sym (append_assoc (take start text) word (SPACE ∷ []))
          ∙ ap (λ (l : List ℕ). l ++ SPACE ∷ []) (up_to text start at c.in_order)
          ∙ ap (λ (b : ℕ). take at text ++ b ∷ []) (sym is)
          ∙ sym (take_more text at 0 lt);
      in_order = omega arith;
      boundary = IsCharBoundary-after_ascii text at utf8 lt (omega arith);
    }

-- after a space that ends no word
pub space_cut : {X : Type 0} (f : X → List ℕ) (xs ys : List X) (text : List ℕ) (start at : ℕ) (joined : Bool)
    → IsUtf8 text → at < length text → get_or text at 0 ≡ SPACE → at ≤ start → Cutting f xs ys text start at joined
    → Cutting f xs ys text (at + 1) (at + 1) false
space_cut f xs ys text start at joined utf8 lt is none c =
    let left : List ℕ = drop (at + 1) text in
    let same : start ≡ at = le_antisymm c.in_order none in
    let here : drop start text ≡ SPACE ∷ left =
    ap (λ (n : ℕ). drop n text) same ∙ drop_more text at 0 lt ∙ ap (λ (b : ℕ). b ∷ left) is in
    record {
      cut = c.cut;
      pushed = c.pushed;
      words = sym (ap (λ (l : List ℕ). c.cut ++ plain_words l) here) ∙ c.words;
      ahead =
          ap (λ (w : List ℕ). rest_words (opened w) (pieces left)) (none_left text (at + 1));
      single = λ one. absurd (false≢true one);
      in_order = omega arith;
      boundary = IsCharBoundary-after_ascii text at utf8 lt (omega arith);
    }

-- ---- the end
-- the words of the text from the open word on are pushed by other means
pub all_pushed : {X : Type 0} (f : X → List ℕ) (xs ys zs : List X) (text : List ℕ) (start at : ℕ) (joined : Bool)
    → map f zs ≡ map f ys ++ plain_words (drop start text) → Cutting f xs ys text start at joined
    → map f zs ≡ map f xs ++ plain_words text
all_pushed f xs ys zs text start at joined pushed c =
    pushed
    ∙ ap (λ (ws : List (List ℕ)). ws ++ plain_words (drop start text)) c.pushed
    ∙ append_assoc (map f xs) c.cut (plain_words (drop start text))
    ∙ ap (λ (ws : List (List ℕ)). map f xs ++ ws) c.words

-- no word is open
pub none_pushed : {X : Type 0} (f : X → List ℕ) (xs ys : List X) (text rest : List ℕ) (start at : ℕ) (joined : Bool)
    → Back text rest → start ≡ length rest → Cutting f xs ys text start at joined
    → map f ys ≡ map f xs ++ plain_words text
none_pushed f xs ys text rest start at joined b end c =
    all_pushed f xs ys ys text start at joined
    (sym (ap (λ (n : ℕ). map f ys ++ plain_words (drop n text)) end
    ∙ ap (λ (ws : List (List ℕ)). map f ys ++ ws) (no_words (drop (length rest) text) b.spaces)
    ∙ append-nil (map f ys)))
    c

-- the last word
last_open : {X : Type 0} (f : X → List ℕ) (xs ys : List X) (text rest : List ℕ) (start at : ℕ) (joined : Bool)
    → Back text rest → start < length rest → at ≡ length rest → Cutting f xs ys text start at joined
    → slice_range text start (length rest) ∷ [] ≡ plain_words (drop start text)
last_open f xs ys text rest start at joined b some end c =
    let word : List ℕ = slice_range text start (length rest) in
    sym (last_word word (drop (length rest) text) (some_open text start (length rest) some b.within) b.spaces)
    ∙ ap (λ (n : ℕ). rest_words (opened (slice_range text start n)) (pieces (drop n text))) (sym end)
    ∙ c.ahead

pub last_pushed : {X : Type 0} (f : X → List ℕ) (xs ys zs : List X) (text rest : List ℕ) (start at : ℕ) (joined : Bool)
    → Back text rest → start < length rest → at ≡ length rest
    → map f zs ≡ map f ys ++ slice_range text start (length rest) ∷ [] → Cutting f xs ys text start at joined
    → map f zs ≡ map f xs ++ plain_words text
last_pushed f xs ys zs text rest start at joined b some end pushed c =
    all_pushed f xs ys zs text start at joined
    (pushed
    ∙ ap (λ (ws : List (List ℕ)). map f ys ++ ws) (last_open f xs ys text rest start at joined b some end c))
    c

join_last : (ws : List (List ℕ)) (word : List ℕ) → spaced ws ++ word ≡ join_words (ws ++ word ∷ [])
join_last [] word = refl
join_last (w ∷ []) word =
    ap (λ (l : List ℕ). l ++ word) (append-nil (w ++ SPACE ∷ [])) ∙ append_assoc w (SPACE ∷ []) word
join_last (w ∷ v ∷ ws) word =
    append_assoc (w ++ SPACE ∷ []) (spaced (v ∷ ws)) word
    ∙ append_assoc w (SPACE ∷ []) (spaced (v ∷ ws) ++ word)
    ∙ ap (λ (l : List ℕ). w ++ SPACE ∷ l) (join_last (v ∷ ws) word)

pub all_joined : {X : Type 0} (f : X → List ℕ) (xs ys : List X) (text rest : List ℕ) (start at : ℕ) (joined : Bool)
    → Back text rest → start < length rest → at ≡ length rest → IsTrue joined → Cutting f xs ys text start at joined
    → rest ≡ join_words (plain_words text)
all_joined f xs ys text rest start at joined b some end one c =
    let word : List ℕ = slice_range text start (length rest) in
    b.front
    ∙ sym (up_to text start (length rest) (omega arith))
    ∙ ap (λ (l : List ℕ). l ++ word) (sym (c.single one))
    ∙ join_last c.cut word
    ∙ ap join_words
    (ap (λ (ws : List (List ℕ)). c.cut ++ ws) (last_open f xs ys text rest start at joined b some end c) ∙ c.words)

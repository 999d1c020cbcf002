-- Prepositions, as the code finds them word by word.
use Rattle.std.proofs.Common.{◌≡◌, ℕ, ◌+◌, ◌-◌, ◌<◌, ◌≤◌, false, eqb, List, [], ◌∷◌, ◌++◌, length, map, take, drop}
use Rattle.std.proofs.Common.{get_or, filter, Option, Some, None, option_map, refl, sym, ap, subst, ◌∙◌, inl, inr}
use Rattle.std.proofs.Common.{arith}
use Rattle.std.proofs.Common.{add-zero, zero-add}
use Rattle.std.specs.Char.{to_ascii_lowercase}
use Rattle.std.specs.List.{find, starts_with}
use Rattle.std.specs.Str.{bytes_eq}
use Rattle.std.proofs.lemmas.Bool.{cases_eq}
use Rattle.std.proofs.lemmas.Bool.Decides.{nat_tests}
use Rattle.std.proofs.lemmas.List.{take_rest, drop-map, drop-drop, drop_all, length-map, length-drop}
use Rattle.std.proofs.lemmas.List.{nil_from_length}
use Rattle.std.proofs.lemmas.Slice.Eq.{bytes_eq-Decides}
use Rattle.mud_words.specs.declared.Prep.{Prep}
use Rattle.std.specs.Str.{str_to_ascii_lowercase as lower}
use Rattle.mud_words.specs.Prepositions.{Phrase, Found, begins, of_length, phrase_at, or_later, preposition_of}
use Rattle.mud_words.specs.inner.Spots.{spot_of, phrase_len}

-- a phrase found n words later
abbrev pub moved : ℕ → Found → Found
moved n f = record f { place = n + f.place }

-- the first word of each, then the others
pub begins_more : {X Y : Type 0} (f : X → List ℕ) (g : Y → List ℕ) (xs : List X) (ys : List Y) (d : X) (e : Y)
    → 0 < length xs → 0 < length ys → lower (f (get_or xs 0 d)) ≡ lower (g (get_or ys 0 e))
    → begins (map f xs) (map g ys)
    ≡ begins (map f (take (length xs - 1) (drop 1 xs))) (map g (take (length ys - 1) (drop 1 ys)))
begins_more f g [] ys d e some more same = absurd (omega arith)
begins_more f g (x ∷ xs) [] d e some more same = absurd (omega arith)
begins_more f g (x ∷ xs) (y ∷ ys) d e some more same =
    rw (take_rest (x ∷ xs) 1, take_rest (y ∷ ys) 1, (bytes_eq-Decides (lower (g y)) (lower (f x))).1 (sym same)) refl

-- the first word of the phrase agrees, and the others decide
pub begins_word : {X Y : Type 0} (f : X → List ℕ) (g : Y → List ℕ) (word : List ℕ) (xs : List X) (ys : List Y) (e : Y)
    → 0 < length ys → lower word ≡ lower (g (get_or ys 0 e))
    → begins (word ∷ map f xs) (map g ys) ≡ begins (map f xs) (map g (take (length ys - 1) (drop 1 ys)))
begins_word f g word xs [] e more same = absurd (omega arith)
begins_word f g word xs (y ∷ ys) e more same =
    rw (take_rest (y ∷ ys) 1, (bytes_eq-Decides (lower (g y)) (lower word)).1 (sym same)) refl

pub word_and_others : {X : Type 0} (f : X → List ℕ) (xs : List X) (x : X) (word : List ℕ) → 0 < length xs
    → x ≡ get_or xs 0 x → word ≡ f x → word ∷ map f (take (length xs - 1) (drop 1 xs)) ≡ map f xs
word_and_others f [] x word some is text = absurd (omega arith)
word_and_others f (y ∷ ys) x word some is text = rw (take_rest (y ∷ ys) 1, text, is) refl

-- the preposition at the first word from place i on
found : (i : ℕ) (ws : List (List ℕ)) (o : Option Phrase) (prep : Prep) (len : ℕ) → 0 < length ws → o ≡ phrase_at ws
    → Some (prep, len) ≡ option_map phrase_len o
    → Some (record { prep = prep; start = i; end = i + len })
    ≡ option_map spot_of (option_map (moved i) (preposition_of ws))
unfolding preposition_of
found i [] o prep len some is this = absurd (omega arith)
found i (w ∷ ws) None prep len some is this = cc
found i (w ∷ ws) (Some p) prep len some is this =
    let same : (prep, len) ≡ phrase_len p = cc in
    rw (← is, ap (λ (t : Prep × ℕ). t.0) same, ap (λ (t : Prep × ℕ). t.1) same, add-zero) refl

later : (i : ℕ) (o : Option Found) → option_map (moved i) (or_later None o) ≡ option_map (moved (i + 1)) o
later i None = refl
later i (Some f) = let e : i + (f.place + 1) ≡ i + 1 + f.place = omega arith in rw e refl

passed : (i : ℕ) (ws : List (List ℕ)) (o : Option Phrase) → 0 < length ws → o ≡ phrase_at ws
    → None ≡ option_map phrase_len o
    → option_map (moved i) (preposition_of ws) ≡ option_map (moved (i + 1)) (preposition_of (drop 1 ws))
unfolding preposition_of
passed i [] o some is this = absurd (omega arith)
passed i (w ∷ ws) (Some p) some is this = cc
passed i (w ∷ ws) None some is this = rw (← is) (later i (preposition_of ws))

-- in the code's terms: there is one at place i
pub counted_here : {X : Type 0} (f : X → List ℕ) (xs : List X) (i : ℕ) (prep : Prep) (len : ℕ) → i < length xs
    → Some (prep, len) ≡ option_map phrase_len (phrase_at (map f (take (length xs - i) (drop i xs))))
    → Some (record { prep = prep; start = i; end = i + len })
    ≡ option_map spot_of (option_map (moved i) (preposition_of (map f (drop i xs))))
counted_here f xs i prep len lt here =
    found i (map f (drop i xs)) _ prep len (omega (arith, length-map (drop i xs) f, length-drop i xs)) refl
    (rw take_rest at here)

-- in the code's terms: there is none at place i
pub counted_later : {X : Type 0} (f : X → List ℕ) (xs : List X) (i : ℕ) → i < length xs
    → None ≡ option_map phrase_len (phrase_at (map f (take (length xs - i) (drop i xs))))
    → option_map (moved i) (preposition_of (map f (drop i xs)))
    ≡ option_map (moved (i + 1)) (preposition_of (map f (drop (i + 1) xs)))
counted_later f xs i lt here =
    passed i (map f (drop i xs)) _ (omega (arith, length-map (drop i xs) f, length-drop i xs)) refl
    (rw take_rest at here)
    ∙ ap (λ (ws : List (List ℕ)). option_map (moved (i + 1)) (preposition_of ws))
    (drop-map f 1 (drop i xs) ∙ ap (map f) (drop-drop 1 i xs))

moved_none : (o : Option Found) → option_map (moved 0) o ≡ o
moved_none None = refl
moved_none (Some f) = rw zero-add refl

-- before the first word is passed, and after the last
pub counted_first : (ws : List (List ℕ)) → option_map (moved 0) (preposition_of ws) ≡ preposition_of ws
counted_first ws = moved_none (preposition_of ws)

pub counted_end : {X : Type 0} (f : X → List ℕ) (xs : List X) (i : ℕ) → length xs ≤ i
    → None ≡ option_map (moved i) (preposition_of (map f (drop i xs)))
unfolding preposition_of
counted_end f xs i end = rw (drop_all i xs end) refl

-- ---- by the first letter
-- the first of some phrases that the words begin with, in lower case
abbrev first_of : List (List ℕ) → List Phrase → Option Phrase
first_of words phrases = find (λ p. starts_with bytes_eq words (map lower p.words)) phrases

abbrev all_phrases : List Phrase
all_phrases = of_length 3 ++ of_length 2 ++ of_length 1

-- for words that begin with a letter, these phrases find what all phrases find
abbrev pub Serves : ℕ → List Phrase → Type 0
Serves letter phrases =
    (ls : List ℕ) (ws : List (List ℕ))
    → first_of ((letter ∷ ls) ∷ ws) phrases ≡ first_of ((letter ∷ ls) ∷ ws) all_phrases

-- the phrases that begin with a letter
abbrev pub with_letter : ℕ → List Phrase
with_letter letter = filter (λ p. eqb (get_or (get_or p.words 0 []) 0 0) letter) all_phrases

pub by_letter : (letter : ℕ) (phrases : List Phrase) → Serves letter phrases → (c : ℕ) (cs : List ℕ)
    (ws : List (List ℕ)) → to_ascii_lowercase c ≡ letter
    → find (λ p. begins ((c ∷ cs) ∷ ws) p.words) phrases ≡ phrase_at ((c ∷ cs) ∷ ws)
unfolding phrase_at
by_letter letter phrases serves c cs ws same =
    let words : ℕ → List (List ℕ) = λ l. (l ∷ lower cs) ∷ map lower ws in
    subst (λ (l : ℕ). first_of (words l) phrases ≡ first_of (words l) all_phrases) (sym same)
    (serves (lower cs) (map lower ws))

differs : (b c : ℕ) → (b ≡ c → ⊥) → eqb c b ≡ false
differs b c other = elim (cases_eq b c) [ inl same ↦ absurd (other same) | inr _ ↦ grind (arith, nat_tests) ]

-- no phrase begins with another letter
pub no_letter : (l : ℕ) → (l ≡ 97 → ⊥) → (l ≡ 98 → ⊥) → (l ≡ 102 → ⊥) → (l ≡ 105 → ⊥) → (l ≡ 111 → ⊥) → (l ≡ 116 → ⊥)
    → (l ≡ 117 → ⊥) → (l ≡ 119 → ⊥) → Serves l []
no_letter l a b f i o t u w ls ws =
    rw (
      differs l 97 a,
      differs l 98 b,
      differs l 102 f,
      differs l 105 i,
      differs l 111 o,
      differs l 116 t,
      differs l 117 u,
      differs l 119 w,
    )
    refl

-- no words, or an empty first word
pub nothing_begun : {X : Type 0} (f : X → List ℕ) (xs : List X) → length xs ≡ 0 → None ≡ phrase_at (map f xs)
unfolding phrase_at
nothing_begun f [] none = refl
nothing_begun f (x ∷ xs) none = absurd (omega arith)

empty_word : (ws : List (List ℕ)) → None ≡ phrase_at ([] ∷ ws)
unfolding phrase_at
empty_word ws = refl

pub empty_begun : {X : Type 0} (f : X → List ℕ) (xs : List X) (x : X) (bytes : List ℕ) → 0 < length xs
    → x ≡ get_or xs 0 x → bytes ≡ f x → length bytes ≡ 0 → None ≡ phrase_at (map f xs)
empty_begun f [] x bytes some is text none = absurd (omega arith)
empty_begun f (y ∷ ys) x bytes some is text none =
    empty_word (map f ys)
    ∙ ap (λ (w : List ℕ). phrase_at (w ∷ map f ys)) (sym (nil_from_length bytes none) ∙ text ∙ ap f is)

-- the phrases of the first letter
pub letter_begun : {X : Type 0} (f : X → List ℕ) (xs : List X) (x : X) (bytes : List ℕ) (letter : ℕ)
    (phrases : List Phrase) → 0 < length xs → x ≡ get_or xs 0 x → bytes ≡ f x → 0 < length bytes
    → letter ≡ to_ascii_lowercase (get_or bytes 0 0)
    → ((c : ℕ) (cs : List ℕ) (ws : List (List ℕ)) → to_ascii_lowercase c ≡ letter
    → find (λ p. begins ((c ∷ cs) ∷ ws) p.words) phrases ≡ phrase_at ((c ∷ cs) ∷ ws))
    → find (λ p. begins (map f xs) p.words) phrases ≡ phrase_at (map f xs)
letter_begun f [] x bytes letter phrases some is text more lower_case serves = absurd (omega arith)
letter_begun f (y ∷ ys) x [] letter phrases some is text more lower_case serves = absurd (omega arith)
letter_begun f (y ∷ ys) x (b ∷ bs) letter phrases some is text more lower_case serves =
    subst (λ (w : List ℕ). find (λ p. begins (w ∷ map f ys) p.words) phrases ≡ phrase_at (w ∷ map f ys))
    (text ∙ ap f is) (serves b bs (map f ys) (sym lower_case))

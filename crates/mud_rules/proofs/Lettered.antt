-- Verbs by their first letter.
use Rattle.std.proofs.Common.{◌≡◌, ◌<◌, ℕ, Bool, true, false, not, ◌&&◌, ◌||◌, eqb, List, [], ◌∷◌, length, map}
use Rattle.std.proofs.Common.{Option, None, get_or, filter, refl, sym, subst, ◌∙◌, ap, inl, inr, arith}
use Rattle.std.specs.Char.{to_ascii_lowercase}
use Rattle.std.specs.List.{list_any}
use Rattle.std.specs.Map.{lookup}
use Rattle.std.specs.Option.{option_map_or}
use Rattle.std.specs.Str.{bytes_eq, str_eq_ignore_ascii_case, str_to_ascii_lowercase}
use Rattle.std.proofs.lemmas.Bool.{cases_eq, cases_Bool}
use Rattle.std.proofs.lemmas.Bool.Decides.{nat_tests}
use Rattle.std.proofs.lemmas.Slice.Eq.{bytes_eq-Decides}
use Rattle.mud_rules.specs.declared.verb.Verb.{Verb}
use Rattle.mud_rules.specs.Table.{verbs, verb_named, asks}

abbrev Rows : Type 0
Rows = List (List ℕ × Verb)

-- the verb that a lower-case word names among some rows
abbrev among : List ℕ → Rows → Option Verb
among word rows = lookup (λ other. bytes_eq word (str_to_ascii_lowercase other)) rows

-- for words that begin with a letter, these rows find what all rows find
abbrev pub Serves : ℕ → Rows → Type 0
Serves letter rows = (ls : List ℕ) → among (letter ∷ ls) rows ≡ among (letter ∷ ls) verbs

-- the rows that begin with a letter
abbrev pub with_letter : ℕ → Rows
with_letter letter = filter (λ row. eqb (get_or row.0 0 0) letter) verbs

pub by_letter : (letter : ℕ) (rows : Rows) → Serves letter rows → (c : ℕ) (cs : List ℕ) → to_ascii_lowercase c ≡ letter
    → lookup (str_eq_ignore_ascii_case (c ∷ cs)) rows ≡ verb_named (c ∷ cs)
unfolding verb_named
by_letter letter rows serves c cs same =
    let word : ℕ → List ℕ = λ l. l ∷ str_to_ascii_lowercase cs in
    subst (λ (l : ℕ). among (word l) rows ≡ among (word l) verbs) (sym same) (serves (str_to_ascii_lowercase cs))

differs : (b c : ℕ) → (b ≡ c → ⊥) → eqb b c ≡ false
differs b c other = elim (cases_eq b c) [ inl same ↦ absurd (other same) | inr _ ↦ grind (arith, nat_tests) ]

-- no word begins with another letter
pub no_letter : (l : ℕ) → (l ≡ 64 → ⊥) → (l ≡ 99 → ⊥) → (l ≡ 100 → ⊥) → (l ≡ 101 → ⊥) → (l ≡ 103 → ⊥) → (l ≡ 105 → ⊥)
    → (l ≡ 108 → ⊥) → (l ≡ 109 → ⊥) → (l ≡ 112 → ⊥) → (l ≡ 113 → ⊥) → (l ≡ 114 → ⊥) → (l ≡ 115 → ⊥) → (l ≡ 116 → ⊥)
    → Serves l []
no_letter l at c d e g i k m p q r s t ls =
    rw (
      differs l 64 at,
      differs l 99 c,
      differs l 100 d,
      differs l 101 e,
      differs l 103 g,
      differs l 105 i,
      differs l 108 k,
      differs l 109 m,
      differs l 112 p,
      differs l 113 q,
      differs l 114 r,
      differs l 115 s,
      differs l 116 t,
    )
    refl

-- no word is empty
pub empty_word : (text : List ℕ) → length text ≡ 0 → None ≡ verb_named text
unfolding verb_named
empty_word [] none = refl
empty_word (c ∷ cs) none = absurd (omega arith)

-- the verb among the rows of the first letter
pub first_letter : (text bytes : List ℕ) (letter : ℕ) (rows : Rows) → bytes ≡ text → 0 < length bytes
    → letter ≡ to_ascii_lowercase (get_or bytes 0 0)
    → ((c : ℕ) (cs : List ℕ) → to_ascii_lowercase c ≡ letter
    → lookup (str_eq_ignore_ascii_case (c ∷ cs)) rows ≡ verb_named (c ∷ cs))
    → lookup (str_eq_ignore_ascii_case text) rows ≡ verb_named text
first_letter text [] letter rows same some is serves = absurd (omega arith)
first_letter text (c ∷ cs) letter rows same some is serves =
    subst (λ (word : List ℕ). lookup (str_eq_ignore_ascii_case word) rows ≡ verb_named word) same
    (serves c cs (sym is))

-- ---- the verbs of questions

-- a lower-case word is one of some words
abbrev is_among : List ℕ → List (List ℕ) → Bool
is_among word words = list_any (λ other. bytes_eq word (str_to_ascii_lowercase other)) words

-- the words of the rows that ask
abbrev pub asking : Rows → List (List ℕ)
asking rows = map (λ row. row.0) (filter (λ row. asks row.1) rows)

-- no row that does not ask has the word of a later one that asks
abbrev are_apart : Rows → Bool
are_apart [] = true
are_apart (row ∷ rows) = (asks row.1 || not (is_among (str_to_ascii_lowercase row.0) (asking rows))) && are_apart rows

apart_here : (a m r : Bool) → ((a || not m) && r) ≡ true → (a ≡ false → m ≡ false) × (r ≡ true)
apart_here true m r apart = (λ lacks. cc, apart)
apart_here false true r apart = cc
apart_here false false r apart = (λ lacks. refl, apart)

-- the word of a verb that asks is one of their words
asked : (word : List ℕ) (rows : Rows) → are_apart rows ≡ true
    → option_map_or asks (among word rows) false ≡ is_among word (asking rows)
asked word [] apart = refl
asked word (row ∷ rows) apart =
    let here = apart_here (asks row.1) (is_among (str_to_ascii_lowercase row.0) (asking rows)) (are_apart rows) apart in
    let Agrees = option_map_or asks (among word (row ∷ rows)) false ≡ is_among word (asking (row ∷ rows)) in
    elim (cases_Bool (bytes_eq word (str_to_ascii_lowercase row.0))) as (λ _. Agrees) [
      | inl same ↦
          let word_is = (bytes_eq-Decides word (str_to_ascii_lowercase row.0)).0 same in
          elim (cases_Bool (asks row.1)) as (λ _. Agrees) [
            | inl does ↦ rw (same, does, same) refl
            | inr lacks ↦ rw (same, lacks) (sym (ap (λ w. is_among w (asking rows)) word_is ∙ here.0 lacks))
          ]
      | inr other ↦
          elim (cases_Bool (asks row.1)) as (λ _. Agrees) [
            | inl does ↦ rw (other, does, other) (asked word rows here.1)
            | inr lacks ↦ rw (other, lacks) (asked word rows here.1)
          ]
    ]

-- for words that begin with a letter, these words have those that ask
abbrev pub ServesAsked : ℕ → List (List ℕ) → Type 0
ServesAsked letter words = (ls : List ℕ) → is_among (letter ∷ ls) words ≡ is_among (letter ∷ ls) (asking verbs)

pub questions_by_letter : (letter : ℕ) (words : List (List ℕ)) → ServesAsked letter words → (c : ℕ) (cs : List ℕ)
    → to_ascii_lowercase c ≡ letter
    → list_any (str_eq_ignore_ascii_case (c ∷ cs)) words ≡ option_map_or asks (verb_named (c ∷ cs)) false
unfolding verb_named
questions_by_letter letter words serves c cs same =
    let word : ℕ → List ℕ = λ l. l ∷ str_to_ascii_lowercase cs in
    subst (λ (l : ℕ). is_among (word l) words ≡ option_map_or asks (among (word l) verbs) false) (sym same)
    (serves (str_to_ascii_lowercase cs) ∙ sym (asked (word letter) verbs refl))

-- no question begins with another letter
pub no_question : (l : ℕ) → (l ≡ 64 → ⊥) → (l ≡ 105 → ⊥) → (l ≡ 108 → ⊥) → (l ≡ 109 → ⊥) → (l ≡ 112 → ⊥)
    → (l ≡ 113 → ⊥) → (l ≡ 114 → ⊥) → ServesAsked l []
no_question l at i k m p q r ls =
    rw (
      differs l 64 at,
      differs l 105 i,
      differs l 108 k,
      differs l 109 m,
      differs l 112 p,
      differs l 113 q,
      differs l 114 r,
    )
    refl

-- the verb of a question is among those of the first letter
pub first_question : (text bytes : List ℕ) (letter : ℕ) (words : List (List ℕ)) → bytes ≡ text → 0 < length bytes
    → letter ≡ to_ascii_lowercase (get_or bytes 0 0)
    → ((c : ℕ) (cs : List ℕ) → to_ascii_lowercase c ≡ letter
    → list_any (str_eq_ignore_ascii_case (c ∷ cs)) words ≡ option_map_or asks (verb_named (c ∷ cs)) false)
    → list_any (str_eq_ignore_ascii_case text) words ≡ option_map_or asks (verb_named text) false
first_question text [] letter words same some is serves = absurd (omega arith)
first_question text (c ∷ cs) letter words same some is serves =
    subst
    (λ (word : List ℕ).
    list_any (str_eq_ignore_ascii_case word) words ≡ option_map_or asks (verb_named word) false) same
    (serves c cs (sym is))

-- The search word by word finds the preposition that counts.
use Rattle.std.proofs.Common.{◌≡◌, ◌↔◌, ◌⊎◌, inl, inr, ℕ, zero, suc, ◌+◌, ◌<◌, ◌≤◌, ◌==◌, Bool, true, false, cond, ◌&&◌}
use Rattle.std.proofs.Common.{◌||◌, List, [], ◌∷◌, ◌++◌, length, map, take, drop, get_or, filter, find, Contains}
use Rattle.std.proofs.Common.{Option, Some, None, refl, sym, ap, subst, ◌∙◌, arith, rules, nat_le, add-one}
use Rattle.std.specs.Bool.{Decides}
use Rattle.std.specs.Cmp.Lexicographic.{pointwise, pointwise_decides, bytes_decides}
use Rattle.std.specs.Str.{bytes_eq}
use Rattle.std.specs.List.{list_all}
use Rattle.std.proofs.lemmas.List.{take-map, length-map, length-drop, length-take}
use Rattle.std.proofs.lemmas.Bool.{false≢true}
use Rattle.std.proofs.lemmas.Bool.Decides.{nat_tests}
use Rattle.std.specs.Str.{str_to_ascii_lowercase as lower}
use Rattle.mud_words.specs.Prepositions.{Phrase, Found, Stands, Counts, table, of_length, begins, phrase_at}
use Rattle.mud_words.specs.Prepositions.{or_later, preposition_of}

-- the list contains the phrase
abbrev Among : List Phrase → Phrase → Type 0
Among [] p = ⊥
Among (q ∷ qs) p = (q ≡ p) ⊎ Among qs p

among_at : (qs : List Phrase) (p : Phrase) (k : ℕ) → k < length qs → get_or qs k p ≡ p → Among qs p
among_at [] p k lt is = absurd (omega arith)
among_at (q ∷ qs) p zero lt is = inl is
among_at (q ∷ qs) p (suc k) lt is = inr (among_at qs p k (omega arith) is)

among : (qs : List Phrase) (p : Phrase) → Contains qs p → Among qs p
among qs p h = among_at qs p h.0 h.1 h.2

contains : (qs : List Phrase) (p : Phrase) → Among qs p → Contains qs p
contains [] p h = absurd h
contains (q ∷ qs) p (inl is) = (0, omega arith, is)
contains (q ∷ qs) p (inr h) = let r = contains qs p h in (suc r.0, omega (arith, r.1), r.2)

-- the first phrase that passes is in the list and passes
first_step : (test : Phrase → Bool) (q : Phrase) (qs : List Phrase) (p : Phrase) (r : Option Phrase) (b : Bool)
    → test q ≡ b → cond b (Some q) r ≡ Some p → (r ≡ Some p → Among qs p × (test p ≡ true))
    → Among (q ∷ qs) p × (test p ≡ true)
first_step test q qs p r true passes is more = let same : q ≡ p = cc in
    (inl same, subst (λ x. test x ≡ true) same passes)
first_step test q qs p r false fails is more = let h = more is in (inr h.0, h.1)

found_first : (test : Phrase → Bool) (qs : List Phrase) (p : Phrase) → find test qs ≡ Some p
    → Among qs p × (test p ≡ true)
found_first test [] p is = cc
found_first test (q ∷ qs) p is = first_step test q qs p (find test qs) (test q) refl is (λ h. found_first test qs p h)

-- if none is found, none passes
none_step : (test : Phrase → Bool) (q : Phrase) (qs : List Phrase) (p : Phrase) (r : Option Phrase) (b : Bool)
    → test q ≡ b → cond b (Some q) r ≡ None → Among (q ∷ qs) p → (r ≡ None → Among qs p → test p ≡ false)
    → test p ≡ false
none_step test q qs p r true passes is h more = cc
none_step test q qs p r false fails is (inl same) more = subst (λ x. test x ≡ false) same fails
none_step test q qs p r false fails is (inr h) more = more is h

found_none : (test : Phrase → Bool) (qs : List Phrase) (p : Phrase) → find test qs ≡ None → Among qs p → test p ≡ false
found_none test [] p is h = absurd h
found_none test (q ∷ qs) p is h = none_step test q qs p (find test qs) (test q) refl is h (λ k. found_none test qs p k)

-- each phrase has at least as many words as any later one
abbrev below : Phrase → List Phrase → Bool
below q qs = list_all (λ p. nat_le (length p.words) (length q.words)) qs

abbrev falls : List Phrase → Bool
falls [] = true
falls (q ∷ qs) = below q qs && falls qs

both : (a b : Bool) → (a && b) ≡ true → (a ≡ true) × (b ≡ true)
both true b h = (refl, h)
both false b h = absurd (false≢true h)

le_from : (m n : ℕ) → nat_le m n ≡ true → m ≤ n
le_from m n h = grind (arith, nat_tests)

below_first : (q : Phrase) (qs : List Phrase) (p : Phrase) → below q qs ≡ true → Among qs p
    → length p.words ≤ length q.words
below_first q [] p all h = absurd h
below_first q (r ∷ rs) p all (inl same) =
    subst (λ (x : Phrase). length x.words ≤ length q.words) same
    (le_from _ _ (both (nat_le (length r.words) (length q.words)) (below q rs) all).0)
below_first q (r ∷ rs) p all (inr h) =
    below_first q rs p (both (nat_le (length r.words) (length q.words)) (below q rs) all).1 h

longest_step : (test : Phrase → Bool) (r : Phrase) (rs : List Phrase) (p q : Phrase) (o : Option Phrase) (b : Bool)
    → test r ≡ b → below r rs ≡ true → cond b (Some r) o ≡ Some p → Among (r ∷ rs) q → test q ≡ true
    → (o ≡ Some p → Among rs q → length q.words ≤ length p.words) → length q.words ≤ length p.words
longest_step test r rs p q o true t down is (inl same) passes more = let e : q ≡ p = cc in
    subst (λ (x : Phrase). length q.words ≤ length x.words) e (omega arith)
longest_step test r rs p q o true t down is (inr h) passes more = let e : r ≡ p = cc in
    subst (λ (x : Phrase). length q.words ≤ length x.words) e (below_first r rs q down h)
longest_step test r rs p q o false t down is (inl same) passes more =
    absurd (false≢true (sym t ∙ subst (λ x. test x ≡ true) (sym same) passes))
longest_step test r rs p q o false t down is (inr h) passes more = more is h

-- if lengths do not rise, the first phrase that passes is the longest that passes
found_longest : (test : Phrase → Bool) (qs : List Phrase) (p q : Phrase) → falls qs ≡ true → find test qs ≡ Some p
    → Among qs q → test q ≡ true → length q.words ≤ length p.words
found_longest test [] p q down is h passes = absurd h
found_longest test (r ∷ rs) p q down is h passes =
    let parts = both (below r rs) (falls rs) down in
    longest_step test r rs p q (find test rs) (test r) refl parts.0 is h passes
    (λ k m. found_longest test rs p q parts.1 k m passes)

-- filtering keeps exactly the phrases that pass
kept_step : (test : Phrase → Bool) (q : Phrase) (qs kept : List Phrase) (p : Phrase) (b : Bool) → test q ≡ b
    → Among (q ∷ qs) p → test p ≡ true → (Among qs p → Among kept p) → Among (cond b (q ∷ kept) kept) p
kept_step test q qs kept p true t (inl same) passes more = inl same
kept_step test q qs kept p true t (inr h) passes more = inr (more h)
kept_step test q qs kept p false t (inl same) passes more =
    absurd (false≢true (sym t ∙ subst (λ x. test x ≡ true) (sym same) passes))
kept_step test q qs kept p false t (inr h) passes more = more h

kept : (test : Phrase → Bool) (qs : List Phrase) (p : Phrase) → Among qs p → test p ≡ true → Among (filter test qs) p
kept test [] p h passes = absurd h
kept test (q ∷ qs) p h passes =
    kept_step test q qs (filter test qs) p (test q) refl h passes (λ k. kept test qs p k passes)

was_step : (q : Phrase) (qs kept : List Phrase) (p : Phrase) (b : Bool) → Among (cond b (q ∷ kept) kept) p
    → (Among kept p → Among qs p) → Among (q ∷ qs) p
was_step q qs kept p true (inl same) more = inl same
was_step q qs kept p true (inr h) more = inr (more h)
was_step q qs kept p false h more = inr (more h)

was : (test : Phrase → Bool) (qs : List Phrase) (p : Phrase) → Among (filter test qs) p → Among qs p
was test [] p h = h
was test (q ∷ qs) p h = was_step q qs (filter test qs) p (test q) h (λ k. was test qs p k)

joined_left : (ps qs : List Phrase) (p : Phrase) → Among ps p → Among (ps ++ qs) p
joined_left [] qs p h = absurd h
joined_left (r ∷ ps) qs p (inl same) = inl same
joined_left (r ∷ ps) qs p (inr h) = inr (joined_left ps qs p h)

joined_right : (ps qs : List Phrase) (p : Phrase) → Among qs p → Among (ps ++ qs) p
joined_right [] qs p h = h
joined_right (r ∷ ps) qs p h = inr (joined_right ps qs p h)

split : (ps qs : List Phrase) (p : Phrase) → Among (ps ++ qs) p → Among ps p ⊎ Among qs p
split [] qs p h = inr h
split (r ∷ ps) qs p (inl same) = inl (inl same)
split (r ∷ ps) qs p (inr h) = elim (split ps qs p h) [ inl k ↦ inl (inr k) | inr k ↦ inr k ]

-- each phrase of the table has one to three words
abbrev has_length : ℕ → Phrase → Bool
has_length n p = length p.words == n

abbrev short : Phrase → Bool
short p = has_length 3 p || (has_length 2 p || has_length 1 p)

all_short : list_all short table ≡ true
all_short = refl

abbrev by_length : List Phrase
by_length = of_length 3 ++ of_length 2 ++ of_length 1

by_length-falls : falls by_length ≡ true
by_length-falls = refl

one_of : (test : Phrase → Bool) (qs : List Phrase) (p : Phrase) → list_all test qs ≡ true → Among qs p → test p ≡ true
one_of test [] p all h = absurd h
one_of test (q ∷ qs) p all (inl same) = subst (λ x. test x ≡ true) same (both (test q) (list_all test qs) all).0
one_of test (q ∷ qs) p all (inr h) = one_of test qs p (both (test q) (list_all test qs) all).1 h

to_length : (p : Phrase) → Among table p → Among by_length p
to_length p h = at (has_length 3 p) (has_length 2 p) refl refl (one_of short table p all_short h)
  where
    at : (a b : Bool) → has_length 3 p ≡ a → has_length 2 p ≡ b → (a || (b || has_length 1 p)) ≡ true
        → Among by_length p
    at true b three two t =
        joined_left (of_length 3 ++ of_length 2) (of_length 1) p
        (joined_left (of_length 3) (of_length 2) p (kept (has_length 3) table p h three))
    at false true three two t =
        joined_left (of_length 3 ++ of_length 2) (of_length 1) p
        (joined_right (of_length 3) (of_length 2) p (kept (has_length 2) table p h two))
    at false false three two t =
        joined_right (of_length 3 ++ of_length 2) (of_length 1) p (kept (has_length 1) table p h t)

from_length : (p : Phrase) → Among by_length p → Among table p
from_length p h = elim (split (of_length 3 ++ of_length 2) (of_length 1) p h) [
  | inl k ↦
      elim (split (of_length 3) (of_length 2) p k) [
        | inl m ↦ was (has_length 3) table p m
        | inr m ↦
            was (has_length 2) table p m
      ]
  | inr k ↦ was (has_length 1) table p k
]

-- ---- the words begin with a phrase
abbrev Here : List (List ℕ) → Phrase → Type 0
Here words p = Among table p × (map lower (take (length p.words) words) ≡ map lower p.words)

begins-Decides : (words phrase : List (List ℕ))
    → Decides (begins words phrase) (map lower (take (length phrase) words) ≡ map lower phrase)
begins-Decides words phrase =
    let same =
    pointwise_decides bytes_decides (map lower phrase) (take (length (map lower phrase)) (map lower words)) in
    let front : take (length (map lower phrase)) (map lower words) ≡ map lower (take (length phrase) words) =
    rw (length-map phrase lower) (take-map lower (length phrase) words) in
    ((λ h. sym (same.0 h ∙ front)), (λ h. same.1 (sym h ∙ sym front)))

phrase_some : (words : List (List ℕ)) (p : Phrase) → phrase_at words ≡ Some p
    → Here words p × ((q : Phrase) → Here words q → length q.words ≤ length p.words)
unfolding phrase_at
phrase_some words p is =
    let first = found_first (λ p. begins words p.words) by_length p is in (
      (from_length p first.0, (begins-Decides words p.words).0 first.1),
      λ q h.
          found_longest (λ p. begins words p.words) by_length p q by_length-falls is (to_length q h.0)
          ((begins-Decides words q.words).1 h.1),
    )

phrase_none : (words : List (List ℕ)) (q : Phrase) → phrase_at words ≡ None → Here words q → ⊥
unfolding phrase_at
phrase_none words q is h =
    false≢true
    (sym (found_none (λ p. begins words p.words) by_length q is (to_length q h.0))
    ∙ (begins-Decides words q.words).1 h.1)

-- every phrase has words, so an empty list of words has no phrase
abbrev has_words : Phrase → Bool
has_words p = nat_le 1 (length p.words)

all_words : list_all has_words table ≡ true
all_words = refl

nowhere : (k : ℕ) (q : Phrase) → Here (drop k []) q → ⊥
nowhere k q h =
    let some : 1 ≤ length q.words = le_from _ _ (one_of has_words table q all_words h.0) in
    let none : length (drop {A = List ℕ} k []) ≤ 0 = omega (arith, length-drop {A = List ℕ} k []) in
    absurd (omega (
      arith,
      ap length h.1,
      length-map
          (take (length q.words) (drop k [])) lower,
      length-map q.words lower,
      length-take (length q.words)
          (drop {A = List ℕ} k []),
    ))

-- ---- the result of the search
record IsCounted (args : List (List ℕ)) (f : Found) : Type 0 where
  stands : Here (drop f.place args) f.phrase
  earliest : (k : ℕ) (q : Phrase) → Here (drop k args) q → f.place ≤ k
  longest : (q : Phrase) → Here (drop f.place args) q → length q.words ≤ length f.phrase.words

abbrev Says : List (List ℕ) → Option Found → Type 0
Says args None = (k : ℕ) (q : Phrase) → Here (drop k args) q → ⊥
Says args (Some f) = IsCounted args f

past : (w : List ℕ) (ws : List (List ℕ)) (k : ℕ) (q : Phrase) → (Here (w ∷ ws) q → ⊥)
    → ((k : ℕ) (q : Phrase) → Here (drop k ws) q → ⊥) → Here (drop k (w ∷ ws)) q → ⊥
past w ws zero q here later h = here h
past w ws (suc k) q here later h = later k q h

after : (w : List ℕ) (ws : List (List ℕ)) (n k : ℕ) (q : Phrase) → (Here (w ∷ ws) q → ⊥)
    → ((k : ℕ) (q : Phrase) → Here (drop k ws) q → n ≤ k) → Here (drop k (w ∷ ws)) q → n + 1 ≤ k
after w ws n zero q here later h = absurd (here h)
after w ws n (suc k) q here later h = omega (arith, later k q h)

drop-past : (w : List ℕ) (ws : List (List ℕ)) (n : ℕ) → drop (n + 1) (w ∷ ws) ≡ drop n ws
drop-past w ws n = rw add-one refl

says_step : (w : List ℕ) (ws : List (List ℕ)) (o : Option Phrase) (l : Option Found) → phrase_at (w ∷ ws) ≡ o
    → Says ws l → Says (w ∷ ws) (or_later o l)
says_step w ws (Some p) l is rest = let h = phrase_some (w ∷ ws) p is in
    record { stands = h.0; earliest = λ k q m. omega arith; longest = λ q m. h.1 q m }
says_step w ws None None is rest = λ k q h. past w ws k q (λ m. phrase_none (w ∷ ws) q is m) rest h
says_step w ws None (Some f) is rest = record {
  stands = subst (λ l. Here l f.phrase) (sym (drop-past w ws f.place)) rest.stands;
  earliest = λ k q h. after w ws f.place k q (λ m. phrase_none (w ∷ ws) q is m) rest.earliest h;
  longest = λ q h. rest.longest q (subst (λ l. Here l q) (drop-past w ws f.place) h);
}

says : (args : List (List ℕ)) → Says args (preposition_of args)
unfolding preposition_of
says [] = λ k q h. nowhere k q h
says (w ∷ ws) = says_step w ws (phrase_at (w ∷ ws)) (preposition_of ws) refl (says ws)

-- ---- no two phrases of the table have the same words
abbrev find_same : List (List ℕ) → Option Phrase
find_same words = find (λ q. pointwise bytes_eq words (map lower q.words)) table

abbrev Each : (Phrase → Type 0) → List Phrase → Type 0
Each P [] = Unit {0}
Each P (q ∷ qs) = P q × Each P qs

finds_itself : Each (λ q. find_same (map lower q.words) ≡ Some q) table
finds_itself = search rules

itself : (P : Phrase → Type 0) (qs : List Phrase) (p : Phrase) → Each P qs → Among qs p → P p
itself P [] p all h = absurd h
itself P (q ∷ qs) p all (inl same) = subst P same all.0
itself P (q ∷ qs) p all (inr h) = itself P qs p all.1 h

one_phrase : (p q : Phrase) → Among table p → Among table q → map lower p.words ≡ map lower q.words → p ≡ q
one_phrase p q hp hq same =
    let own : Phrase → Type 0 = λ x. find_same (map lower x.words) ≡ Some x in
    let e : Some p ≡ Some q =
    sym (itself own table p finds_itself hp) ∙ ap find_same same ∙ itself own table q finds_itself hq in
    cc

-- ---- the law
heard : (args : List (List ℕ)) (f : Found) → Stands args f → Here (drop f.place args) f.phrase
heard args f h = (among table f.phrase h.listed, h.here)

stands : (args : List (List ℕ)) (k : ℕ) (p : Phrase) → Here (drop k args) p
    → Stands args (record { place = k; phrase = p })
stands args k p h = record { listed = contains table p h.0; here = h.1 }

counts : (args : List (List ℕ)) (f : Found) → IsCounted args f → Counts args f
counts args f h = record {
  stands = stands args f.place f.phrase h.stands;
  earliest = λ g s. h.earliest g.place g.phrase (heard args g s);
  longest = λ g s e. h.longest g.phrase (subst (λ k. Here (drop k args) g.phrase) e (heard args g s));
}

is_that : (args : List (List ℕ)) (f : Found) (o : Option Found) → Says args o → Counts args f → o ≡ Some f
is_that args f None told h = absurd (told f.place f.phrase (heard args f h.stands))
is_that args f (Some g) told h =
    let before = h.earliest g (stands args g.place g.phrase told.stands) in
    let behind = told.earliest f.place f.phrase (heard args f h.stands) in
    let place : g.place ≡ f.place = omega arith in
    let here = subst (λ k. Here (drop k args) g.phrase) place told.stands in
    let there = heard args f h.stands in
    let shorter = h.longest g (stands args g.place g.phrase told.stands) place in
    let longer = told.longest f.phrase (subst (λ k. Here (drop k args) f.phrase) (sym place) there) in
    let len : length g.phrase.words ≡ length f.phrase.words = omega arith in
    let words : map lower g.phrase.words ≡ map lower f.phrase.words =
    sym here.1 ∙ ap (λ n. map lower (take n (drop f.place args))) len ∙ there.1 in
    let phrase = one_phrase g.phrase f.phrase here.0 there.0 words in
    ap (λ k. Some (record { place = k; phrase = g.phrase })) place
    ∙ ap (λ p. Some (record { place = f.place; phrase = p })) phrase

pub counted_counts : (args : List (List ℕ)) (f : Found) → (preposition_of args ≡ Some f) ↔ Counts args f
counted_counts args f =
    ((λ e. counts args f (subst (Says args) e (says args))), (λ h. is_that args f (preposition_of args) (says args) h))

is_none : (args : List (List ℕ)) (o : Option Found) → Says args o → ((f : Found) → ¬ Stands args f) → o ≡ None
is_none args None told bare = refl
is_none args (Some f) told bare = absurd (bare f (stands args f.place f.phrase told.stands))

pub counted_none : (args : List (List ℕ)) → (preposition_of args ≡ None) ↔ ((f : Found) → ¬ Stands args f)
counted_none args = (
  (λ e f h. let bare : Says args None = subst (Says args) e (says args) in bare f.place f.phrase (heard args f h)),
  (λ bare. is_none args (preposition_of args) (says args) bare),
)

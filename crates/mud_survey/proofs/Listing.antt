-- Numbers that pass a test, and lists of exactly the numbers with a property.
use Rattle.std.proofs.Common.{◌≡◌, ℕ, zero, suc, ◌+◌, ◌<◌, ◌≤◌, ◌⊎◌, inl, inr, true, false, cond, List, [], ◌∷◌, length}
use Rattle.std.proofs.Common.{get_or, refl, sym, ◌∙◌, ap, subst, arith, ⊎_elim}
use Rattle.std.specs.Prelude.{Bool, Contains, AllPairs, filter, ◌↔◌}
use Rattle.std.specs.List.{range_with_len}
use Rattle.std.proofs.lemmas.List.FromFn.{get_or-range_with_len, length-range_with_len}
use Rattle.std.proofs.lemmas.List.Kept.{AllPairs-filter}
use Rattle.std.proofs.lemmas.Bool.{true≢false}
use Rattle.mud_world.proofs.Records.{bool_cases}
use Rattle.mud_survey.specs.Survey.{Lists}

-- ---- an element of a list
pub first-or : {A : Type 0} (y : A) (xs : List A) (x : A) → Contains (y ∷ xs) x → (y ≡ x) ⊎ Contains xs x
first-or y xs x (zero, less, is) = inl is
first-or y xs x (suc k, less, is) = inr (k, omega (arith, less), is)

pub behind : {A : Type 0} (y : A) (xs : List A) (x : A) → Contains xs x → Contains (y ∷ xs) x
behind y xs x (k, less, is) = (suc k, omega (arith, less), is)

pub in-front : {A : Type 0} (x : A) (xs : List A) → Contains (x ∷ xs) x
in-front x xs = (0, omega arith, refl)

-- ---- numbers that pass a test
pub Contains-filter : {A : Type 0} (p : A → Bool) (xs : List A) (x : A) → Contains (filter p xs) x
    → Contains xs x × (p x ≡ true)
Contains-filter p [] x (k, less, is) = absurd (omega (arith, less))
Contains-filter {A} p (y ∷ xs) x c =
    bool_cases (p y)
    (λ sure.
    let here : Contains (y ∷ filter p xs) x =
    subst (λ (l : List A). Contains l x) (ap (λ b. cond b (y ∷ filter p xs) (filter p xs)) sure) c in
    ⊎_elim
    (λ (same : y ≡ x). (subst (λ z. Contains (y ∷ xs) z) same (in-front y xs), sym (ap p same) ∙ sure))
    (λ (later : Contains (filter p xs) x).
    let rest = Contains-filter p xs x later in (behind y xs x rest.0, rest.1))
    (first-or y (filter p xs) x here))
    (λ denied.
    let there : Contains (filter p xs) x =
    subst (λ (l : List A). Contains l x) (ap (λ b. cond b (y ∷ filter p xs) (filter p xs)) denied) c in
    let rest = Contains-filter p xs x there in (behind y xs x rest.0, rest.1))

pub filter-Contains : {A : Type 0} (p : A → Bool) (xs : List A) (x : A) → Contains xs x → p x ≡ true
    → Contains (filter p xs) x
filter-Contains p [] x (k, less, is) passes = absurd (omega (arith, less))
filter-Contains {A} p (y ∷ xs) x c passes =
    ⊎_elim
    (λ (same : y ≡ x).
    let sure : p y ≡ true = ap p same ∙ passes in
    subst (λ (l : List A). Contains l x) (sym (ap (λ b. cond b (y ∷ filter p xs) (filter p xs)) sure))
    (subst (λ z. Contains (y ∷ filter p xs) z) same (in-front y (filter p xs))))
    (λ (later : Contains xs x).
    let rest = filter-Contains p xs x later passes in
    bool_cases (p y)
    (λ sure. subst (λ (l : List A). Contains l x) (sym (ap (λ b. cond b (y ∷ filter p xs) (filter p xs)) sure))
    (behind y (filter p xs) x rest))
    (λ denied. subst (λ (l : List A). Contains l x) (sym (ap (λ b. cond b (y ∷ filter p xs) (filter p xs)) denied))
    rest))
    (first-or y xs x c)

-- ---- numbers below the next
pub below-next : (next n : ℕ) → Contains (range_with_len 0 next) n → n < next
below-next next n (k, less, is) =
    let long = length-range_with_len 0 next in
    let at = get_or-range_with_len 0 next k n (omega (arith, less, long)) in
    omega (arith, less, long, at, is)

pub among-next : (next n : ℕ) → n < next → Contains (range_with_len 0 next) n
among-next next n less =
    let long = length-range_with_len 0 next in
    (n, omega (arith, less, long), get_or-range_with_len 0 next n n less ∙ (let same : 0 + n ≡ n = omega arith in same))

pub rising-range : (next : ℕ) → AllPairs ◌<◌ (range_with_len 0 next)
rising-range next i j d less within =
    let long = length-range_with_len 0 next in
    let one = get_or-range_with_len 0 next i d (omega (arith, less, within, long)) in
    let two = get_or-range_with_len 0 next j d (omega (arith, within, long)) in
    omega (arith, one, two, less)

-- the numbers with a property that a test decides
pub lists-of : (IsSo : ℕ → Type 0) (test : ℕ → Bool) (next : ℕ) → ((n : ℕ) → test n ≡ true → IsSo n)
    → ((n : ℕ) → IsSo n → (n < next) × (test n ≡ true)) → (found : List ℕ)
    → found ≡ filter test (range_with_len 0 next) → Lists ◌<◌ IsSo found
lists-of IsSo test next holds passes found is =
    subst (Lists ◌<◌ IsSo) (sym is) (record {
      exact = λ n. (
        λ c. holds n (Contains-filter test (range_with_len 0 next) n c).1,
        λ so. let p = passes n so in
            filter-Contains test (range_with_len 0 next) n (among-next next n p.0) p.1,
      );
      ordered = AllPairs-filter ◌<◌ test (range_with_len 0 next) (rising-range next);
    })

-- The marks of one list are added to those of another.
use Rattle.std.proofs.Common.{◌≡◌, ◌≢◌, ℕ, ◌+◌, ◌<◌, ◌≤◌, ◌⊎◌, inl, inr, true, false, List, length, set, refl, sym, ◌∙◌}
use Rattle.std.proofs.Common.{replicate, ap, subst, arith, ⊎_elim}
use Rattle.std.specs.Prelude.{Bool, ◌||◌, IsTrue}
use Rattle.std.proofs.lemmas.Bool.{or_right, cases_lt}
use Rattle.std.proofs.lemmas.List.{get_or-set_same, get_or-set_other, get_or_past, get_or-replicate, length-replicate}
use Rattle.mud_survey.specs.inner.Marks.{mark_at}

or_false : (b : Bool) → (b || false) ≡ b
or_false true = refl
or_false false = refl

-- a number below the next, or it
below-next : (n i : ℕ) → n < i + 1 → (n < i) ⊎ (n ≡ i)
below-next n i less = grind arith

-- the number is marked in the other list, too
pub marked-too : (old marks others : List Bool) (i : ℕ) → i < length marks
    → ((n : ℕ) → n < i → mark_at marks n ≡ (mark_at old n || mark_at others n)) → IsTrue (mark_at others i)
    → (n : ℕ) → n < i + 1 → mark_at (set marks i true) n ≡ (mark_at old n || mark_at others n)
marked-too old marks others i inside done is n less =
    ⊎_elim
    (λ (before : n < i). get_or-set_other marks i n true false (λ same. omega (arith, before, same)) ∙ done n before)
    (λ (here : n ≡ i).
    subst (λ m. mark_at (set marks i true) m ≡ (mark_at old m || mark_at others m)) (sym here)
    (get_or-set_same marks i true false inside ∙ sym (or_right (mark_at old i) (mark_at others i) is)))
    (below-next n i less)

pub later-stays : (old marks : List Bool) (i : ℕ) → ((n : ℕ) → i ≤ n → mark_at marks n ≡ mark_at old n)
    → (n : ℕ) → i + 1 ≤ n → mark_at (set marks i true) n ≡ mark_at old n
later-stays old marks i rest n past =
    get_or-set_other marks i n true false (λ same. omega (arith, past, same)) ∙ rest n (omega (arith, past))

-- it is not
pub clear-there : (old marks others : List Bool) (i : ℕ)
    → ((n : ℕ) → n < i → mark_at marks n ≡ (mark_at old n || mark_at others n))
    → ((n : ℕ) → i ≤ n → mark_at marks n ≡ mark_at old n) → mark_at others i ≡ false
    → (n : ℕ) → n < i + 1 → mark_at marks n ≡ (mark_at old n || mark_at others n)
clear-there old marks others i done rest clear n less =
    ⊎_elim (λ (before : n < i). done n before)
    (λ (here : n ≡ i).
    subst (λ m. mark_at marks m ≡ (mark_at old m || mark_at others m)) (sym here)
    (rest i (omega arith) ∙ sym (ap (λ b. mark_at old i || b) clear ∙ or_false (mark_at old i))))
    (below-next n i less)

-- all of the other list was looked at
pub all-marked-too : (old marks others : List Bool) (i : ℕ) → length others ≤ i
    → ((n : ℕ) → n < i → mark_at marks n ≡ (mark_at old n || mark_at others n))
    → ((n : ℕ) → i ≤ n → mark_at marks n ≡ mark_at old n)
    → (n : ℕ) → mark_at marks n ≡ (mark_at old n || mark_at others n)
all-marked-too old marks others i end done rest n =
    ⊎_elim (λ (before : n < i). done n before)
    (λ (past : i ≤ n).
    let none : mark_at others n ≡ false = get_or_past others n false (omega (arith, end, past)) in
    rest n past ∙ sym (ap (λ b. mark_at old n || b) none ∙ or_false (mark_at old n)))
    (cases_lt n i)

-- no number of a fresh list is marked
pub none-marked : (count n : ℕ) → mark_at (replicate count false) n ≡ false
none-marked count n =
    ⊎_elim (λ (inside : n < count). get_or-replicate count n false false inside)
    (λ (past : count ≤ n).
    get_or_past (replicate count false) n false
    (let long = length-replicate count false in omega (arith, past, long)))
    (cases_lt n count)

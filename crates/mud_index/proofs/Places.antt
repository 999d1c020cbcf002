-- The places of numbers in a sorted list.
use Rattle.std.proofs.Common.{◌≡◌, ℕ, zero, suc, ◌+◌, ◌<◌, ◌≤◌, true, false, cond, ◌||◌, not, List, [], ◌∷◌, length}
use Rattle.std.proofs.Common.{◌-◌, ◌++◌, ◌∙◌, get_or, refl, sym, ap, inl, inr, arith}
use Rattle.std.specs.Prelude.{nat_eq, Ok, Err, is_ok}
use Rattle.std.specs.declared.result.Result.{Result}
use Rattle.std.specs.Ordering.{nat_cmp}
use Rattle.std.specs.List.{insert as insert_at, remove, list_any}
use Rattle.std.specs.List.Sorted.{IsNonDecreasing, IsBinarySearchResult}
use Rattle.std.proofs.lemmas.Bool.{lt-ltb, le-ltb, eq-eqb, ne_eqb, cases_lt, or_right}
use Rattle.std.proofs.lemmas.List.Edits.{insert_end, length-remove, get_or-remove_below, get_or-remove_above}
use Rattle.std.proofs.lemmas.List.Sorted.{searched}
use Rattle.mud_index.specs.Rising.{insert, without}

-- after all that are not above it, and before all that are
pub placed : (n : ℕ) (xs : List ℕ) (i : ℕ) → i ≤ length xs → ((k : ℕ) → k < i → get_or xs k 0 ≤ n)
    → ((k : ℕ) → i ≤ k → k < length xs → n < get_or xs k 0)
    → insert_at xs i n ≡ insert n xs
placed n [] zero at low high = refl
placed n [] (suc i) at low high = absurd (omega arith)
placed n (x ∷ xs) zero at low high =
    let above : n < x = high 0 (omega arith) (omega arith) in
    rw (lt-ltb n x above)
placed n (x ∷ xs) (suc i) at low high =
    let passed : x ≤ n = low 0 (omega arith) in
    rw (le-ltb n x passed)
    (ap (λ v. x ∷ v)
    (placed n xs i (omega arith) (λ k before. low (suc k) (omega arith))
    (λ k behind within. high (suc k) (omega arith) (omega arith))))

-- at the end, if the last number is not above it
pub at_end : (n : ℕ) (xs : List ℕ) → IsNonDecreasing xs → ((d : ℕ) → 0 < length xs → get_or xs (length xs - 1) d ≤ n)
    → xs ++ n ∷ [] ≡ insert n xs
at_end n xs rising above =
    sym (insert_end xs n)
    ∙ placed n xs (length xs) (omega arith)
    (λ k before.
    omega (arith, rising k (length xs - 1) 0 (omega arith) (omega arith), above 0 (omega arith)))
    (λ k behind within. absurd (omega arith))

-- ---- removal

-- the number at the place is the one to remove
pub without-remove : (n : ℕ) (xs : List ℕ) (i : ℕ) → i < length xs → get_or xs i 0 ≡ n
    → without n (remove xs i) ≡ without n xs
without-remove n [] i within is = absurd (omega arith)
without-remove n (x ∷ xs) zero within is =
    sym (ap (λ b. cond (not b) (x ∷ without n xs) (without n xs)) (eq-eqb x n is))
without-remove n (x ∷ xs) (suc i) within is =
    ap (λ v. cond (not (nat_eq x n)) (x ∷ v) v) (without-remove n xs i (omega arith) is)

pub rising-remove : (xs : List ℕ) (i : ℕ) → i < length xs → IsNonDecreasing xs → IsNonDecreasing (remove xs i)
rising-remove xs i within up j k d order last =
    let long = length-remove xs i within in
    elim (cases_lt k i) [
      | inl k_before ↦ rw
          (get_or-remove_below xs i d j (omega arith) within, get_or-remove_below xs i d k k_before within)
          (up j k d order (omega arith))
      | inr k_behind ↦
          elim (cases_lt j i) [
            | inl j_before ↦ rw
                (get_or-remove_below xs i d j j_before within, get_or-remove_above xs i d k k_behind within)
                (up j (k + 1) d (omega arith) (omega arith))
            | inr j_behind ↦ rw
                (get_or-remove_above xs i d j j_behind within, get_or-remove_above xs i d k k_behind within)
                (up (j + 1) (k + 1) d (omega arith) (omega arith))
          ]
    ]

-- ---- search

-- none of these equals the number
abbrev pub AreOther : ℕ → List ℕ → Type 0
AreOther n xs = (k : ℕ) → k < length xs → get_or xs k 0 ≡ n → ⊥

pub without-other : (n : ℕ) (xs : List ℕ) → AreOther n xs → without n xs ≡ xs
without-other n [] other = refl
without-other n (x ∷ xs) other =
    rw (ne_eqb x n (other 0 (omega arith)))
    (ap (λ v. x ∷ v) (without-other n xs (λ k within. other (suc k) (omega arith))))

any-other : (n : ℕ) (xs : List ℕ) → AreOther n xs → list_any (nat_eq n) xs ≡ false
any-other n [] other = refl
any-other n (x ∷ xs) other =
    let no : nat_eq n x ≡ false = ne_eqb n x (λ e. other 0 (omega arith) (sym e)) in
    rw no (any-other n xs (λ k within. other (suc k) (omega arith)))

any-there : (n : ℕ) (xs : List ℕ) (i : ℕ) → i < length xs → get_or xs i 0 ≡ n → list_any (nat_eq n) xs ≡ true
any-there n [] i within is = absurd (omega arith)
any-there n (x ∷ xs) zero within is = ap (λ b. b || list_any (nat_eq n) xs) (eq-eqb n x (sym is))
any-there n (x ∷ xs) (suc i) within is =
    or_right (nat_eq n x) (list_any (nat_eq n) xs) (any-there n xs i (omega arith) is)

pub found-there : (n : ℕ) (xs : List ℕ) (i : ℕ) → IsBinarySearchResult (λ y. nat_cmp y n) xs (Ok i) → IsNonDecreasing xs
    → (i < length xs) × (get_or xs i 0 ≡ n)
found-there n xs i position up = searched xs n (Ok i) position (λ j k. up j k 0)

pub found-other : (n : ℕ) (xs : List ℕ) (i : ℕ) → IsBinarySearchResult (λ y. nat_cmp y n) xs (Err i)
    → IsNonDecreasing xs → AreOther n xs
found-other n xs i position up k within is =
    let place = searched xs n (Err i) position (λ j k. up j k 0) in
    elim (cases_lt k i) [
      | inl before ↦ let below : get_or xs k 0 < n = place.1 k before in omega arith
      | inr behind ↦ let above : n < get_or xs k 0 = place.2 k behind within in omega arith
    ]

pub any-found : (n : ℕ) (xs : List ℕ) (r : Result ℕ ℕ) → IsBinarySearchResult (λ y. nat_cmp y n) xs r
    → IsNonDecreasing xs → is_ok r ≡ list_any (nat_eq n) xs
any-found n xs (Ok i) position up = let there = found-there n xs i position up in sym (any-there n xs i there.0 there.1)
any-found n xs (Err i) position up = sym (any-other n xs (found-other n xs i position up))

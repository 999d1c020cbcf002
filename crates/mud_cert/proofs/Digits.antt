-- Reading a written number gives the number.
use Rattle.std.proofs.Common.{◌≡◌, ℕ, ◌+◌, ◌-◌, ◌*◌, ◌/◌, ◌%◌, ◌^◌, ◌<◌, ◌≤◌, ◌⊎◌, inl, inr, List, [], ◌∷◌, ◌++◌, None}
use Rattle.std.proofs.Common.{Some, true, false, cond, eqb, leb, ltb, refl, sym, ◌∙◌, ap, subst, arith, append_assoc}
use Rattle.std.specs.Fmt.{decimal}
use Rattle.std.proofs.lemmas.Fmt.{decimal_digit, decimal_step, decimal_by_steps}
use Rattle.std.proofs.lemmas.Bool.{cond-true, cond-false, cases_Bool, and_parts, and_from, leb-true, le-leb, eqb-true}
use Rattle.std.proofs.lemmas.Bool.{ne_eqb, eqb-false, ltb-true, lt-ltb, cases_eq}
use Rattle.std.proofs.lemmas.Option.{cond_some}
use Rattle.mud_key.specs.declared.codes.TheConstants.{ZERO, NINE}
use Rattle.mud_key.specs.declared.limits.TheConstants.{AMOUNTS}
use Rattle.mud_cert.specs.inner.Reader.{is_digit, digits_on, small, number_at}

step : (n b : ℕ) (bs : List ℕ) → is_digit b ≡ true → digits_on n (b ∷ bs) ≡ digits_on (n * 10 + (b - ZERO)) bs
step n b bs e = cond-true (is_digit b) (digits_on (n * 10 + (b - ZERO)) bs) (n, b ∷ bs) e

digit-range : (b : ℕ) → is_digit b ≡ true → (ZERO ≤ b) × (b ≤ NINE)
digit-range b e = let p = and_parts (leb ZERO b) (leb b NINE) e in (leb-true ZERO b p.0, leb-true b NINE p.1)

is-digit : (b : ℕ) → ZERO ≤ b → b ≤ NINE → is_digit b ≡ true
is-digit b lo hi = and_from (leb ZERO b) (leb b NINE) (le-leb ZERO b lo) (le-leb b NINE hi)

-- further digits never make the number smaller
pub grows : (n : ℕ) (bs : List ℕ) → n ≤ (digits_on n bs).0
grows n [] = omega arith
grows n (b ∷ bs) = go (grows (n * 10 + (b - ZERO)) bs) (cases_Bool (is_digit b))
  where
    go : (n * 10 + (b - ZERO) ≤ (digits_on (n * 10 + (b - ZERO)) bs).0) → (is_digit b ≡ true) ⊎ (is_digit b ≡ false)
        → n ≤ (digits_on n (b ∷ bs)).0
    go more (inl e) =
        let same : (digits_on n (b ∷ bs)).0 ≡ (digits_on (n * 10 + (b - ZERO)) bs).0 =
        ap (λ (p : ℕ × List ℕ). p.0) (step n b bs e) in
        omega arith
    go more (inr e) =
        let same : (digits_on n (b ∷ bs)).0 ≡ n =
        ap (λ (p : ℕ × List ℕ). p.0) (cond-false (is_digit b) (digits_on (n * 10 + (b - ZERO)) bs) (n, b ∷ bs) e) in
        omega arith

-- one more digit at the end
decimal-more : (n d : ℕ) → 0 < n → d < 10 → n * 10 + d < 2 ^ 64 → decimal (n * 10 + d) ≡ decimal n ++ (ZERO + d) ∷ []
decimal-more n d some small fits =
    let q : (n * 10 + d) / 10 ≡ n = omega arith in
    let r : (n * 10 + d) % 10 ≡ d = omega arith in
    decimal_step (n * 10 + d) (omega arith) fits
    ∙ ap (λ k. decimal k ++ (ZERO + (n * 10 + d) % 10) ∷ []) q
    ∙ ap (λ k. decimal n ++ (ZERO + k) ∷ []) r

takes-on : (n : ℕ) (bs : List ℕ) → 0 < n → (digits_on n bs).0 < 2 ^ 64
    → decimal n ++ bs ≡ decimal (digits_on n bs).0 ++ (digits_on n bs).1
takes-on n [] some fits = refl
takes-on n (b ∷ bs) some fits = go (takes-on (n * 10 + (b - ZERO)) bs) (cases_Bool (is_digit b))
  where
    go : (0 < n * 10 + (b - ZERO) → (digits_on (n * 10 + (b - ZERO)) bs).0 < 2 ^ 64 → decimal (n * 10 + (b - ZERO))
        ++ bs ≡ decimal (digits_on (n * 10 + (b - ZERO)) bs).0 ++ (digits_on (n * 10 + (b - ZERO)) bs).1)
        → (is_digit b ≡ true) ⊎ (is_digit b ≡ false)
        → decimal n ++ b ∷ bs ≡ decimal (digits_on n (b ∷ bs)).0 ++ (digits_on n (b ∷ bs)).1
    go again (inl e) =
        let at = step n b bs e in
        let range = digit-range b e in
        let fits2 : (digits_on (n * 10 + (b - ZERO)) bs).0 < 2 ^ 64 = omega (arith, ap (λ (p : ℕ × List ℕ). p.0) at) in
        let below : n * 10 + (b - ZERO) < 2 ^ 64 = omega (arith, grows (n * 10 + (b - ZERO)) bs) in
        let back : ZERO + (b - ZERO) ≡ b = omega (arith, range.0) in
        let one : decimal (n * 10 + (b - ZERO)) ≡ decimal n ++ b ∷ [] =
        decimal-more n (b - ZERO) some (omega (arith, range.1)) below ∙ ap (λ k. decimal n ++ k ∷ []) back in
        sym (append_assoc (decimal n) (b ∷ []) bs) ∙ ap (λ (xs : List ℕ). xs ++ bs)
        (sym one) ∙ again (omega arith) fits2
        ∙ ap (λ (p : ℕ × List ℕ). decimal p.0 ++ p.1) (sym at)
    go again (inr e) = ap (λ (p : ℕ × List ℕ). decimal p.0 ++ p.1)
        (sym (cond-false (is_digit b) (digits_on (n * 10 + (b - ZERO)) bs) (n, b ∷ bs) e))

-- reading the digits of a number gives the number
reads-on : (n : ℕ) → n < 2 ^ 64 → (rest : List ℕ) → digits_on 0 (decimal n ++ rest) ≡ digits_on n rest
reads-on n fits = decimal_by_steps (λ n ds. (rest : List ℕ) → digits_on 0 (ds ++ rest) ≡ digits_on n rest)
    (λ n small rest.
    let d : 0 * 10 + (ZERO + n - ZERO) ≡ n = omega arith in
    step 0 (ZERO + n) rest (is-digit (ZERO + n) (omega arith) (omega arith)) ∙ ap (λ k. digits_on k rest) d)
    (λ n ds big known rest.
    let d : n / 10 * 10 + (ZERO + n % 10 - ZERO) ≡ n = omega arith in
    let lo : ZERO + n % 10 ≤ NINE = omega arith in
    ap (digits_on 0) (append_assoc ds ((ZERO + n % 10) ∷ []) rest)
    ∙ known ((ZERO + n % 10) ∷ rest)
    ∙ step (n / 10) (ZERO + n % 10) rest (is-digit (ZERO + n % 10) (omega arith) lo)
    ∙ ap (λ k. digits_on k rest) d)
    n fits

small-some : (p q : ℕ × List ℕ) → small p ≡ Some q → (p ≡ q) × (p.0 < AMOUNTS)
small-some p q e =
    let r = cond_some (ltb p.0 AMOUNTS) p q e in
    (r.1, ltb-true p.0 AMOUNTS r.0)

-- the number that is read has this spelling
pub number-takes : (bytes : List ℕ) (q : ℕ × List ℕ) → number_at bytes ≡ Some q
    → (bytes ≡ decimal q.0 ++ q.1) × (q.0 < AMOUNTS)
unfolding number_at
number-takes [] q e = absurd (cc)
number-takes (b ∷ bs) q e = go (cases_Bool (eqb b ZERO)) (cases_Bool (is_digit b))
  where
    go : (eqb b ZERO ≡ true) ⊎ (eqb b ZERO ≡ false) → (is_digit b ≡ true) ⊎ (is_digit b ≡ false)
        → (b ∷ bs ≡ decimal q.0 ++ q.1) × (q.0 < AMOUNTS)
    go (inl z) d =
        let zero-is : Some (0, bs) ≡ Some q =
        sym (cond-true (eqb b ZERO) (Some (0, bs)) (cond (is_digit b) (small (digits_on (b - ZERO) bs)) None) z) ∙ e in
        let same : (0, bs) ≡ q = cc in
        let at : b ≡ ZERO = eqb-true b ZERO z in
        let F : ℕ × List ℕ → Type 0 = λ p. (b ∷ bs ≡ decimal p.0 ++ p.1) × (p.0 < AMOUNTS) in
        subst F same
        (ap (λ k. k ∷ bs) at ∙ ap (λ (xs : List ℕ). xs ++ bs) (sym (decimal_digit 0 (omega arith))), omega arith)
    go (inr z) (inr d) =
        let bad : None ≡ Some q = sym
        (cond-false (eqb b ZERO) (Some (0, bs)) (cond (is_digit b) (small (digits_on (b - ZERO) bs)) None) z
        ∙ cond-false (is_digit b) (small (digits_on (b - ZERO) bs)) None d) ∙ e in
        absurd (cc)
    go (inr z) (inl d) =
        let is : small (digits_on (b - ZERO) bs) ≡ Some q = sym
        (cond-false (eqb b ZERO) (Some (0, bs)) (cond (is_digit b) (small (digits_on (b - ZERO) bs)) None) z
        ∙ cond-true (is_digit b) (small (digits_on (b - ZERO) bs)) None d) ∙ e in
        let r = small-some (digits_on (b - ZERO) bs) q is in
        let range = digit-range b d in
        let some : 0 < b - ZERO = omega (arith, eqb-false b ZERO z, range.0) in
        let back : ZERO + (b - ZERO) ≡ b = omega (arith, range.0) in
        let on = takes-on (b - ZERO) bs some (omega (arith, r.1)) in
        let F : ℕ × List ℕ → Type 0 = λ p. (b ∷ bs ≡ decimal p.0 ++ p.1) × (p.0 < AMOUNTS) in
        subst F r.0 (
          ap (λ k. k ∷ bs) (sym back) ∙ ap (λ (xs : List ℕ). xs ++ bs)
              (sym (decimal_digit (b - ZERO) (omega (arith, range.1)))) ∙ on,
          r.1,
        )

-- a number other than 0 begins with a digit other than 0
record Begins (n : ℕ) (ds : List ℕ) : Type 0 where
  head : ℕ
  tail : List ℕ
  is : ds ≡ head ∷ tail
  low : ZERO ≤ head
  high : head ≤ NINE
  some : 0 < n → 49 ≤ head

begins : (n : ℕ) → n < 2 ^ 64 → Begins n (decimal n)
begins n fits = decimal_by_steps Begins
    (λ n little. record {
      head = ZERO + n;
      tail = [];
      is = refl;
      low = omega arith;
      high =
          omega arith;
      some = λ h. omega arith;
    })
    (λ n ds big b. record {
      head = b.head;
      tail = b.tail ++ (ZERO + n % 10) ∷ [];
      is = ap (λ (xs : List ℕ). xs ++ (ZERO + n % 10) ∷ []) b.is;
      low = b.low;
      high =
          b.high;
      some = λ h. b.some (omega arith);
    })
    n fits

-- the spelling is read back if no digit follows
pub number-again : (n : ℕ) (rest : List ℕ) → n < AMOUNTS → digits_on n rest ≡ (n, rest)
    → number_at (decimal n ++ rest) ≡ Some (n, rest)
unfolding number_at
number-again n rest few ends = go (cases_eq n 0)
  where
    go : (n ≡ 0) ⊎ (n ≡ 0 → ⊥) → number_at (decimal n ++ rest) ≡ Some (n, rest)
    go (inl z) = ap (λ k. number_at (decimal k ++ rest)) z ∙ ap (λ (xs : List ℕ). number_at (xs ++ rest))
        (decimal_digit 0 (omega arith)) ∙ ap (λ k. Some (k, rest)) (sym z)
    go (inr nz) =
        let b = begins n (omega arith) in
        let first : 49 ≤ b.head = b.some (omega arith) in
        let apart : b.head ≡ ZERO → ⊥ = λ e. omega arith in
        let digit : is_digit b.head ≡ true = is-digit b.head b.low b.high in
        let more : List ℕ = b.tail ++ rest in
        let start : b.head - ZERO ≡ 0 * 10 + (b.head - ZERO) = omega arith in
        let on : digits_on (b.head - ZERO) more ≡ (n, rest) =
        ap (λ k. digits_on k more) start ∙ sym (step 0 b.head more digit)
        ∙ ap (λ (xs : List ℕ). digits_on 0 (xs ++ rest)) (sym b.is) ∙ reads-on n (omega arith) rest ∙ ends in
        ap (λ (xs : List ℕ). number_at (xs ++ rest)) b.is
        ∙ cond-false (eqb b.head ZERO) (Some (0, more))
        (cond (is_digit b.head) (small (digits_on (b.head - ZERO) more)) None) (ne_eqb b.head ZERO apart)
        ∙ cond-true (is_digit b.head) (small (digits_on (b.head - ZERO) more)) None digit
        ∙ ap small on
        ∙ cond-true (ltb n AMOUNTS) (Some (n, rest)) None (lt-ltb n AMOUNTS few)

-- The bytes that a peer in memory sends.
use Rattle.std.proofs.Common.{◌≡◌, ◌+◌, ◌-◌, ℕ, zero, suc, List, [], ◌∷◌, ◌++◌, length, take, drop, sym, ap, ◌∙◌, refl}
use Rattle.std.proofs.Common.{arith, subst}
use Rattle.std.proofs.Math.Seq.{take-append_seam}

abbrev nothing : List ℕ
nothing = []

take_none : (n : ℕ) → take n [] ≡ nothing
take_none zero = refl
take_none (suc n) = refl

take_add : (a n : ℕ) (xs : List ℕ) → take (a + n) xs ≡ take a xs ++ take n (drop a xs)
take_add zero n xs = let e : zero + n ≡ n = omega arith in ap (λ k. take k xs) e
take_add (suc a) n [] =
    let e : suc a + n ≡ suc (a + n) = omega arith in
    ap (λ (k : ℕ). take k nothing) e ∙ sym (take_none n)
take_add (suc a) n (x ∷ xs) =
    let e : suc a + n ≡ suc (a + n) = omega arith in
    ap (λ k. take k (x ∷ xs)) e ∙ ap (λ (l : List ℕ). x ∷ l) (take_add a n xs)

-- what was received is a prefix of the buffer
pub received : (at n : ℕ) (xs part rest : List ℕ) → part ≡ take ((at + n) - at) (drop at xs) → length part ≡ n
    → take (at + n) xs ≡ take at xs ++ take n (part ++ rest)
received at n xs part rest is long =
    let e : (at + n) - at ≡ n = omega arith in
    let same : take n (drop at xs) ≡ part = ap (λ k. take k (drop at xs)) (sym e) ∙ sym is in
    let front : take n (part ++ rest) ≡ part =
    subst (λ (k : ℕ). take k (part ++ rest) ≡ part) long (take-append_seam part rest) in
    take_add at n xs ∙ ap (λ (l : List ℕ). take at xs ++ l) (same ∙ sym front)

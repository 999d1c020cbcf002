-- The bytes before the first zero.
use Rattle.std.proofs.Common.{◌≡◌, ◌≢◌, ◌⊎◌, inl, inr, ℕ, zero, suc, ◌<◌, List, [], ◌∷◌, ◌++◌, length, take}
use Rattle.std.proofs.Common.{get_or, refl, sym, ◌∙◌, ap, arith, cond}
use Rattle.std.specs.List.{AllByRecursion}
use Rattle.std.proofs.lemmas.Bool.{cases_eq, eq-eqb, ne_eqb}
use Rattle.mud_chron.specs.Zeros.{up_to_zero}

abbrev pub HasNoZero : List ℕ → Type 0
HasNoZero bytes = AllByRecursion (λ b. b ≢ 0) bytes

pub to_zero : (b : ℕ) (bytes : List ℕ) → b ≡ 0 → up_to_zero (b ∷ bytes) ≡ []
to_zero b bytes is = ap (λ t. cond t [] (b ∷ up_to_zero bytes)) (eq-eqb b 0 is)

pub past : (b : ℕ) (bytes : List ℕ) → b ≢ 0 → up_to_zero (b ∷ bytes) ≡ b ∷ up_to_zero bytes
past b bytes is = ap (λ t. cond t [] (b ∷ up_to_zero bytes)) (ne_eqb b 0 is)

-- there is a zero at place i, and none before
pub ends_at : (bytes : List ℕ) (i : ℕ) → i < length bytes → get_or bytes i 0 ≡ 0
    → ((k : ℕ) → k < i → get_or bytes k 0 ≡ 0 → ⊥) → take i bytes ≡ up_to_zero bytes
ends_at [] i lt at none = absurd (omega (arith, lt))
ends_at (b ∷ bytes) zero lt at none = sym (to_zero b bytes at)
ends_at (b ∷ bytes) (suc i) lt at none =
    ap (λ t. b ∷ t) (ends_at bytes i (omega (arith, lt)) at (λ k less. none (suc k) (omega (arith, less))))
    ∙ sym (past b bytes (none 0 (omega arith)))

-- there is no zero
pub ends_nowhere : (bytes : List ℕ) → ((k : ℕ) → k < length bytes → get_or bytes k 0 ≡ 0 → ⊥)
    → bytes ≡ up_to_zero bytes
ends_nowhere [] none = refl
ends_nowhere (b ∷ bytes) none =
    ap (λ t. b ∷ t) (ends_nowhere bytes (λ k less. none (suc k) (omega (arith, less))))
    ∙ sym (past b bytes (none 0 (omega arith)))

-- they are a prefix of all bytes
pub begin : (bytes : List ℕ) → (behind : List ℕ) × (up_to_zero bytes ++ behind ≡ bytes)
begin [] = ([], refl)
begin (b ∷ bytes) = go (cases_eq b 0) (begin bytes)
  where
    go : (b ≡ 0) ⊎ (b ≢ 0) → ((behind : List ℕ) × (up_to_zero bytes ++ behind ≡ bytes))
        → (behind : List ℕ) × (up_to_zero (b ∷ bytes) ++ behind ≡ b ∷ bytes)
    go (inl hole) more = (b ∷ bytes, ap (λ t. t ++ b ∷ bytes) (to_zero b bytes hole))
    go (inr some) (behind, is) =
        (behind, ap (λ t. t ++ behind) (past b bytes some) ∙ ap (λ t. b ∷ t) is)

-- after a text without zeros they continue
pub behind_text : (text behind : List ℕ) → HasNoZero text → up_to_zero (text ++ behind) ≡ text ++ up_to_zero behind
behind_text [] behind none = refl
behind_text (b ∷ text) behind none =
    past b (text ++ behind) none.0 ∙ ap (λ t. b ∷ t) (behind_text text behind none.1)

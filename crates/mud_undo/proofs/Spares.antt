-- Entries that take numbers.
use Rattle.std.proofs.Common.{◌≡◌, ℕ, zero, suc, ◌+◌, ◌-◌, ◌≤◌, [], ◌∷◌, ◌++◌, refl, ◌∙◌, ap, arith}
use Rattle.std.specs.Prelude.{codes, Some}
use Rattle.std.specs.List.{flat_map, range_with_len}
use Rattle.std.proofs.lemmas.List.{append-nil}
use Rattle.std.proofs.lemmas.List.Concat.{flat_map-append}
use Rattle.mud_key.specs.Finds.{names_in}
use Rattle.mud_undo.specs.Without.{spare}

-- the names of a spare thing are read
pub gone_read : names_in (codes "gone") ≡ Some (codes "gone" ∷ [])
unfolding names_in
gone_read = refl

range-push : (a n : ℕ) → range_with_len a (suc n) ≡ range_with_len a n ++ (a + n) ∷ []
range-push a zero = ap (λ m. m ∷ []) (let same : a ≡ a + zero = omega arith in same)
range-push a (suc n) =
    ap (λ l. a ∷ l) (range-push (a + 1) n
    ∙ ap (λ m. range_with_len (a + 1) n ++ m ∷ []) (let same : a + 1 + n ≡ a + suc n = omega arith in same))

-- one number more
pub spares-more : (first number : ℕ) → first ≤ number
    → flat_map spare (range_with_len first (number + 1 - first))
    ≡ flat_map spare (range_with_len first (number - first)) ++ spare number
spares-more first number within =
    ap (λ n. flat_map spare (range_with_len first n))
    (let next : number + 1 - first ≡ suc (number - first) = omega (arith, within) in next)
    ∙ ap (flat_map spare) (range-push first (number - first))
    ∙ flat_map-append spare (range_with_len first (number - first)) ((first + (number - first)) ∷ [])
    ∙ ap (λ l. flat_map spare (range_with_len first (number - first)) ++ l)
    (append-nil (spare (first + (number - first)))
    ∙ ap spare (let same : first + (number - first) ≡ number = omega (arith, within) in same))

-- Consecutive numbers from 0 on.
use Rattle.std.proofs.Common.{◌≡◌, ℕ, zero, suc, ◌+◌, [], ◌∷◌, ◌++◌, ◌∙◌, ap, arith}
use Rattle.std.specs.List.{range_with_len}

more : (a n : ℕ) → range_with_len a (suc n) ≡ range_with_len a n ++ (a + n) ∷ []
more a zero = ap (λ m. m ∷ []) (omega arith)
more a (suc n) = ap (λ ns. a ∷ ns) (more (a + 1) n) ∙ ap (λ m. a ∷ range_with_len (a + 1) n ++ m ∷ []) (omega arith)

-- one number more
pub range_more : (n : ℕ) → range_with_len 0 (suc n) ≡ range_with_len 0 n ++ n ∷ []
range_more n = more 0 n ∙ ap (λ m. range_with_len 0 n ++ m ∷ []) (omega arith)

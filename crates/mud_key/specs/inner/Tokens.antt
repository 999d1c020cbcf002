-- Trees as lists of tokens: equal token lists come from equal trees.
use Rattle.std.specs.Prelude.{◌≡◌, ℕ, List, [], ◌∷◌, refl}
use Rattle.std.proofs.Common.{◌∙◌, ap, ◌⊎◌, inl, inr, zero, suc}
use Rattle.std.specs.Coded.{Coded, code_by, coded⊎, coded_list, coded_ℕ}
use Rattle.mud_key.specs.declared.operator.Operator.{Operator}
use Rattle.mud_key.specs.declared.operator.Operator.TheVariants.{And, Or}
use Rattle.mud_key.specs.Tree.{Tree, Has, Asks, Not, Join}

-- an object, an object after `?`, or the number of a sign
abbrev Token : Type 0 → Type 0
Token O = O ⊎ (O ⊎ ℕ)

abbrev operator_number : Operator → ℕ
operator_number And = 1
operator_number Or = 2

abbrev tokens : {O : Type 0} → Tree O → List (Token O) → List (Token O)
tokens (Has o) ts = inl o ∷ ts
tokens (Asks o) ts = inr (inl o) ∷ ts
tokens (Not k) ts = tokens k (inr (inr 0) ∷ ts)
tokens (Join op a b) ts = tokens a (tokens b (inr (inr (operator_number op)) ∷ ts))

abbrev join_top : {O : Type 0} → ℕ → Tree O → List (Tree O) → List (Tree O)
join_top (suc zero) b (a ∷ st) = Join And a b ∷ st
join_top (suc (suc n)) b (a ∷ st) = Join Or a b ∷ st
join_top n b st = Not b ∷ st

abbrev operate : {O : Type 0} → ℕ → List (Tree O) → List (Tree O)
operate n [] = []
operate n (b ∷ st) = join_top n b st

abbrev build : {O : Type 0} → List (Token O) → List (Tree O) → List (Tree O)
build [] st = st
build (inl o ∷ ts) st = build ts (Has o ∷ st)
build (inr (inl o) ∷ ts) st = build ts (Asks o ∷ st)
build (inr (inr n) ∷ ts) st = build ts (operate n st)

abbrev first_tree : {O : Type 0} → O → List (Tree O) → Tree O
first_tree o [] = Has o
first_tree o (k ∷ st) = k

pub build-tokens : {O : Type 0} (k : Tree O) (ts : List (Token O)) (st : List (Tree O))
    → build (tokens k ts) st ≡ build ts (k ∷ st)
build-tokens (Has o) ts st = refl
build-tokens (Asks o) ts st = refl
build-tokens (Not k) ts st = build-tokens k (inr (inr 0) ∷ ts) st
build-tokens (Join And a b) ts st =
    build-tokens a (tokens b (inr (inr 1) ∷ ts)) st ∙ build-tokens b (inr (inr 1) ∷ ts) (a ∷ st)
build-tokens (Join Or a b) ts st =
    build-tokens a (tokens b (inr (inr 2) ∷ ts)) st ∙ build-tokens b (inr (inr 2) ∷ ts) (a ∷ st)

abbrev pub coded_tree : {O : Type 0} → O → Coded O → Coded (Tree O)
coded_tree {O} o c =
    code_by (List (Token O)) (coded_list (coded⊎ c (coded⊎ c coded_ℕ))) (λ k. tokens k [])
    (λ ts. first_tree o (build ts [])) (λ k. ap (first_tree o) (build-tokens k [] []))

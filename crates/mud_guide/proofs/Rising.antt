-- A sorted list is determined by its elements.
use Rattle.std.proofs.Common.{◌≡◌, ℕ, ◌<◌, ◌⊎◌, inl, inr, List, [], ◌∷◌, suc, refl, sym, ◌∙◌, ap, subst, arith}
use Rattle.std.specs.Prelude.{Contains, AllPairs}
use Rattle.mud_roads.specs.declared.label.Label.{Label}
use Rattle.mud_cert.proofs.Finds.{contains-head, contains-tail, contains-cases, contains-nil}

abbrev pub Entry : Type 0
Entry = ℕ × Label

abbrev pub Below : Entry → Entry → Type 0
Below d e = d.0 < e.0

-- each element of the one list is one of the other
abbrev pub AreAmong : List Entry → List Entry → Type 0
AreAmong fs es = (x : Entry) → Contains es x → Contains fs x

rising-tail : (e : Entry) (es : List Entry) → AllPairs Below (e ∷ es) → AllPairs Below es
rising-tail e es rising i j d less inside = rising (suc i) (suc j) d (omega arith) (omega arith)

-- the first is below the others
rising-head : (e : Entry) (es : List Entry) → AllPairs Below (e ∷ es) → (x : Entry) → Contains es x → e.0 < x.0
rising-head e es rising x (k, inside, is) =
    subst (λ (y : Entry). e.0 < y.0) is (rising 0 (suc k) x (omega arith) (omega arith))

same-head : (e f : Entry) (es fs : List Entry) → AllPairs Below (e ∷ es) → AllPairs Below (f ∷ fs)
    → AreAmong (f ∷ fs) (e ∷ es) → AreAmong (e ∷ es) (f ∷ fs) → e ≡ f
same-head e f es fs p q there back =
    go (contains-cases f e fs (there e (contains-head e es))) (contains-cases e f es (back f (contains-head f fs)))
  where
    go : (f ≡ e) ⊎ Contains fs e → (e ≡ f) ⊎ Contains es f → e ≡ f
    go (inl same) c = sym same
    go (inr c) (inl same) = same
    go (inr c) (inr d) = absurd (omega (arith, rising-head e es p f d, rising-head f fs q e c))

-- the rest after equal first elements is among the other rest
same-among : (e f : Entry) (es fs : List Entry) → AllPairs Below (e ∷ es) → e ≡ f
    → AreAmong (f ∷ fs) (e ∷ es) → AreAmong fs es
same-among e f es fs p same there x c = go (contains-cases f x fs (there x (contains-tail e x es c)))
  where
    go : (f ≡ x) ⊎ Contains fs x → Contains fs x
    go (inl is) = absurd (omega (arith, rising-head e es p x c, ap (λ (y : Entry). y.0) (same ∙ is)))
    go (inr d) = d

pub rising-one : (es fs : List Entry) → AllPairs Below es → AllPairs Below fs
    → AreAmong fs es → AreAmong es fs → es ≡ fs
rising-one [] [] p q there back = refl
rising-one [] (f ∷ fs) p q there back = absurd (contains-nil f (back f (contains-head f fs)))
rising-one (e ∷ es) [] p q there back = absurd (contains-nil e (there e (contains-head e es)))
rising-one (e ∷ es) (f ∷ fs) p q there back =
    let same : e ≡ f = same-head e f es fs p q there back in
    let rest : es ≡ fs =
    rising-one es fs (rising-tail e es p) (rising-tail f fs q) (same-among e f es fs p same there)
    (same-among f e fs es q (sym same) back) in
    ap (λ (x : Entry). x ∷ es) same ∙ ap (λ (xs : List Entry). f ∷ xs) rest

-- The model of the owners, from the map in memory.
use Rattle.std.proofs.Common.{◌≡◌, ◌∙◌, ℕ, Bool, true, false, cond, ◌||◌, List, [], ◌∷◌, Option, Some, Vec, Global}
use Rattle.std.proofs.Common.{refl, sym, ap}
use Rattle.std.specs.Prelude.{map, bytes_eq, nat_eq, if◌then◌else◌}
use Rattle.std.specs.List.{AllZip, list_any}
use Rattle.std.specs.Map.{lookup, KeepsOthers}
use Rattle.std.proofs.lemmas.Bool.{true≢false, and_parts, eqb-true}
use Rattle.mud_index.specs.Owners.{owner_of}
use Rattle.mud_index.specs.inner.Views.{seen_of}

abbrev pub Text : Type 0
Text = Vec ℕ Global

abbrev pub same : Text → Text → Bool
same a b = bytes_eq a.items b.items

pub owner_seen : (t : List ℕ) (es : List (Text × ℕ))
    → owner_of (seen_of es) t ≡ lookup (λ (k : Text). bytes_eq t k.items) es
owner_seen t [] = refl
owner_seen t (e ∷ es) = ap (λ v. cond (bytes_eq t e.0.items) (Some e.1) v) (owner_seen t es)

bool_cases : {P : Type 0} (b : Bool) → (b ≡ true → P) → (b ≡ false → P) → P
bool_cases true f g = f refl
bool_cases false f g = g refl

same_text : (x y : List ℕ) → bytes_eq x y ≡ true → x ≡ y
same_text [] [] e = refl
same_text [] (b ∷ y) e = absurd (true≢false (sym e))
same_text (a ∷ x) [] e = absurd (true≢false (sym e))
same_text (a ∷ x) (b ∷ y) e =
    let parts = and_parts (nat_eq a b) (bytes_eq x y) e in
    λ i. eqb-true a b parts.0 i ∷ same_text x y parts.1 i

-- one text gets another owner, or loses its owner, and the others keep theirs
pub changed_owner : (es fs : List (Text × ℕ)) (x : List ℕ) (w : Option ℕ)
    → lookup (λ (k : Text). bytes_eq x k.items) fs ≡ w → KeepsOthers same (λ k. bytes_eq x k.items) es fs
    → (t : List ℕ) → owner_of (seen_of fs) t ≡ cond (bytes_eq t x) w (owner_of (seen_of es) t)
unfolding KeepsOthers
changed_owner es fs x w at keeps t =
    owner_seen t fs
    ∙ bool_cases (bytes_eq t x)
    (λ here.
    ap (λ v. lookup (λ (k : Text). bytes_eq v k.items) fs) (same_text t x here) ∙ at
    ∙ sym (ap (λ b. if b then w else owner_of (seen_of es) t) here))
    (λ past.
    keeps (λ k. bytes_eq t k.items)
    (λ a b is. ap (λ v. bytes_eq v b.items) (same_text t a.items is))
    (λ k xk. bool_cases (bytes_eq t k.items)
    (λ tk. absurd (true≢false (sym (ap (bytes_eq t) (same_text x k.items xk) ∙ tk) ∙ past)))
    (λ no. no))
    ∙ sym (owner_seen t es)
    ∙ sym (ap (λ b. if b then w else owner_of (seen_of es) t) past))

pub cloned : (D : Text → Text → Type 0) (C : ℕ → ℕ → Type 0) → ((v w : Text) → D v w → w.items ≡ v.items)
    → ((x y : ℕ) → C x y → y ≡ x)
    → (es fs : List (Text × ℕ)) → AllZip (λ p q. D p.0 q.0 × C p.1 q.1) es fs → seen_of fs ≡ seen_of es
cloned D C same_list same_key [] [] all = refl
cloned D C same_list same_key [] (f ∷ fs) all = absurd all
cloned D C same_list same_key (e ∷ es) [] all = absurd all
cloned D C same_list same_key (e ∷ es) (f ∷ fs) all =
    λ i. (same_list e.0 f.0 all.0.0 i, same_key e.1 f.1 all.0.1 i) ∷ cloned D C same_list same_key es fs all.1 i

-- ---- one text after the other

-- once the remaining texts are set, all are
abbrev pub AreLeft : List (List ℕ) → List (List ℕ) → Option ℕ → List (List ℕ × ℕ) → List (List ℕ × ℕ) → Type 0
AreLeft left all owner old new =
    (t : List ℕ)
    → cond (list_any (bytes_eq t) left) owner (owner_of new t)
    ≡ cond (list_any (bytes_eq t) all) owner (owner_of old t)

-- one more text is set
pub left-step : (x : List ℕ) (left all : List (List ℕ)) (owner : Option ℕ) (old mid new : List (List ℕ × ℕ))
    → AreLeft (x ∷ left) all owner old mid
    → ((t : List ℕ) → owner_of new t ≡ cond (bytes_eq t x) owner (owner_of mid t)) → AreLeft left all owner old new
left-step x left all owner old mid new whole is = λ t.
    ap (λ v. cond (list_any (bytes_eq t) left) owner v) (is t)
    ∙ either (bytes_eq t x) (list_any (bytes_eq t) left) (owner_of mid t)
    ∙ whole t
  where
    either : (a b : Bool) (v : Option ℕ) → cond b owner (cond a owner v) ≡ cond (a || b) owner v
    either true true v = refl
    either true false v = refl
    either false true v = refl
    either false false v = refl

pub any-map : (p : List ℕ → Bool) (f : List ℕ → List ℕ) (xs : List (List ℕ))
    → list_any p (map f xs) ≡ list_any (λ a. p (f a)) xs
any-map p f [] = refl
any-map p f (x ∷ xs) = ap (λ b. p (f x) || b) (any-map p f xs)

-- The least number with a property, and properties of some element of a list with one more.
use Rattle.std.proofs.Common.{◌≡◌, ◌⊎◌, inl, inr, ℕ, zero, suc, ◌≤◌, ◌<◌, Bool, true, false, List, [], ◌∷◌, ◌++◌}
use Rattle.std.proofs.Common.{length, Option, Some, None, slice_get, refl, sym, ap, ◌∙◌, subst, arith}
use Rattle.std.proofs.lemmas.Bool.Decides.{nat_tests}
use Rattle.std.proofs.lemmas.Option.{none-some, same_Some, slice_get_within, slice_get-get_or, get_or_from_slice_get}
use Rattle.std.specs.Prelude.{Any, nat_lt, if◌then◌else◌}
use Rattle.mud_hall.specs.inner.CheckFaults.{lesser_of, IsLeast}

-- ---- the least number with a property

pub least_same : (P Q : ℕ → Type 0) (a : Option ℕ) → ((u : ℕ) → P u → Q u) → ((u : ℕ) → Q u → P u)
    → IsLeast P a → IsLeast Q a
least_same P Q None on back none = λ u q. none u (back u q)
least_same P Q (Some v) on back (is, least) = (on v is, λ u q. least u (back u q))

-- the least number with one of two properties
pub least_either : (P Q : ℕ → Type 0) (a b : Option ℕ) → IsLeast P a → IsLeast Q b
    → IsLeast (λ u. P u ⊎ Q u) (lesser_of a b)
least_either P Q None None p q = λ u h. elim h [ inl x ↦ p u x | inr y ↦ q u y ]
least_either P Q None (Some w) p q = (inr q.0, λ u h. elim h [ inl x ↦ absurd (p u x) | inr y ↦ q.1 u y ])
least_either P Q (Some v) None p q = (inl p.0, λ u h. elim h [ inl x ↦ p.1 u x | inr y ↦ absurd (q u y) ])
least_either P Q (Some v) (Some w) p q = go (nat_lt v w) refl
  where
    go : (t : Bool) → nat_lt v w ≡ t → IsLeast (λ u. P u ⊎ Q u) (Some (if t then v else w))
    go true e =
        let less : v < w = grind (arith, nat_tests) in
        (inl p.0, λ u h. elim h [ inl x ↦ p.1 u x | inr y ↦ omega (arith, q.1 u y) ])
    go false e =
        let most : w ≤ v = grind (arith, nat_tests) in
        (inr q.0, λ u h. elim h [ inl x ↦ omega (arith, p.1 u x) | inr y ↦ q.1 u y ])

pub least_self : (o : Option ℕ) → IsLeast (λ v. o ≡ Some v) o
least_self None = λ u e. none-some u e
least_self (Some v) = (refl, λ u e. omega (arith, same_Some v u e))

pub lesser_none : (a : Option ℕ) → lesser_of a None ≡ a
lesser_none None = refl
lesser_none (Some v) = refl

-- ---- lists with one more element

pub front : {X : Type 0} (xs : List X) (x : X) (i : ℕ) → i < length xs → slice_get (xs ++ x ∷ []) i ≡ slice_get xs i
front [] x i lt = absurd (omega arith)
front (y ∷ xs) x zero lt = refl
front (y ∷ xs) x (suc i) lt = front xs x i (omega arith)

pub last : {X : Type 0} (xs : List X) (x : X) → slice_get (xs ++ x ∷ []) (length xs) ≡ Some x
last [] x = refl
last (y ∷ xs) x = last xs x

-- an element is one of the first, or the last
pub at_or_last : {X : Type 0} (xs : List X) (x y : X) (i : ℕ) → slice_get (xs ++ x ∷ []) i ≡ Some y
    → ((i < length xs) × (slice_get xs i ≡ Some y)) ⊎ ((i ≡ length xs) × (x ≡ y))
at_or_last [] x y zero at = inr (refl, same_Some x y at)
at_or_last [] x y (suc i) at = absurd (none-some y at)
at_or_last (z ∷ xs) x y zero at = inl (omega arith, at)
at_or_last (z ∷ xs) x y (suc i) at = elim (at_or_last xs x y i at) [
  | inl h ↦ inl (omega (arith, h.0), h.1)
  | inr h ↦ inr (omega (arith, h.0), h.1)
]

-- an element with a property, by its place
pub any_at : {X : Type 0} (P : X → Type 0) (xs : List X) (i : ℕ) (x : X) → slice_get xs i ≡ Some x → P x → Any P xs
any_at P xs i x at p = (i, x, slice_get_within xs i x at, get_or_from_slice_get xs i x x at, p)

pub place : {X : Type 0} (P : X → Type 0) (xs : List X) (h : Any P xs) → slice_get xs h.0 ≡ Some h.1
place P xs (k, x, lt, at, p) = slice_get-get_or xs k x lt ∙ ap Some at

pub any_later : {X : Type 0} (P : X → Type 0) (xs : List X) (x : X) → Any P xs → Any P (xs ++ x ∷ [])
any_later P xs x h = any_at P (xs ++ x ∷ []) h.0 h.1 (front xs x h.0 h.2 ∙ place P xs h) h.4

pub any_last : {X : Type 0} (P : X → Type 0) (xs : List X) (x : X) → P x → Any P (xs ++ x ∷ [])
any_last P xs x p = any_at P (xs ++ x ∷ []) (length xs) x (last xs x) p

pub any_cases : {X : Type 0} (P : X → Type 0) (xs : List X) (x : X) → Any P (xs ++ x ∷ []) → Any P xs ⊎ P x
any_cases P xs x h = elim (at_or_last xs x h.1 h.0 (place P (xs ++ x ∷ []) h)) [
  | inl w ↦ inl (any_at P xs h.0 h.1 w.1 h.4)
  | inr w ↦ inr (subst P (sym w.1) h.4)
]

-- Lists of the results of several jobs.
use Rattle.std.proofs.Common.{◌≡◌, ℕ, zero, suc, ◌<◌, List, [], ◌∷◌, ◌++◌, length, map, get_or, Result, Ok, Err}
use Rattle.std.proofs.Common.{refl, sym, ◌∙◌, ap, arith, subst}
use Rattle.std.specs.Prelude.{IfOk}
use Rattle.std.specs.List.{AllZip}
use Rattle.std.proofs.Math.Logic.{∥∥₁_map, ∥∥₁_elim, ∥∥₁_prop}

-- a property of a result that is not an error
pub if-ok : {X E : Type 0} (P Q : X → Type 0) (r : Result X E) → ((x : X) → P x → Q x) → IfOk r P → IfOk r Q
if-ok P Q (Ok x) follows p = follows x p
if-ok P Q (Err e) follows p = tt

pub map-map : {X Y Z : Type 0} (f : Y → Z) (h : X → Y) (xs : List X) → map f (map h xs) ≡ map (λ x. f (h x)) xs
map-map f h [] = refl
map-map f h (x ∷ xs) = ap (λ (l : List _). f (h x) ∷ l) (map-map f h xs)

-- two lists whose elements map to equal values, pair by pair
pub maps_alike : {P C : Type 0} (f : C → List ℕ) (h : P → List ℕ) (players : List P) (all : List C)
    → length all ≡ length players
    → ((i : ℕ) (p : P) (c : C) → i < length players → f (get_or all i c) ≡ h (get_or players i p))
    → map f all ≡ map h players
maps_alike f h [] [] same each = refl
maps_alike f h [] (c ∷ all) same each = absurd (omega (arith, same))
maps_alike f h (p ∷ players) [] same each = absurd (omega (arith, same))
maps_alike f h (p ∷ players) (c ∷ all) same each =
    ap (λ (xs : List ℕ). xs ∷ map f all) (each 0 p c (omega arith))
    ∙ ap (λ (xs : List (List ℕ)). h p ∷ xs)
    (maps_alike f h players all (omega (arith, same)) (λ i q d lt. each (suc i) q d (omega (arith, lt))))

-- the element of a list of results that are all of this kind
pub ok-at : {C E : Type 0} (rs : List (Result C E)) (all : List C) → rs ≡ map Ok all → (i : ℕ) (c : C)
    → get_or rs i (Ok c) ≡ Ok (get_or all i c)
ok-at [] [] e i c = refl
ok-at [] (x ∷ all) e i c = absurd (cc)
ok-at (r ∷ rs) [] e i c = absurd (cc)
ok-at (r ∷ rs) (x ∷ all) e zero c =
    let head : r ≡ Ok x = cc in
    head
ok-at (r ∷ rs) (x ∷ all) e (suc i) c =
    let tail : rs ≡ map Ok all = cc in
    ok-at rs all tail i c

-- ---- two lists, pair by pair

zip-push : {A B : Type 0} (R : A → B → Type 0) (xs : List A) (ys : List B) (x : A) (y : B) → AllZip R xs ys → R x y
    → AllZip R (xs ++ x ∷ []) (ys ++ y ∷ [])
zip-push R [] [] x y all one = (one, tt)
zip-push R [] (b ∷ ys) x y all one = absurd all
zip-push R (a ∷ xs) [] x y all one = absurd all
zip-push R (a ∷ xs) (b ∷ ys) x y (first, more) one = (first, zip-push R xs ys x y more one)

-- one more of each
pub zip_pushed : {A B : Type 0} (R : A → B → Type 0) (xs news : List A) (ys bs : List B) (x : A) (y : B)
    → news ≡ xs ++ x ∷ [] → bs ≡ ys ++ y ∷ [] → ∥ AllZip R xs ys ∥₁ → ∥ R x y ∥₁ → ∥ AllZip R news bs ∥₁
zip_pushed {A} {B} R xs news ys bs x y left right all one =
    subst (λ (l : List A). ∥ AllZip R l bs ∥₁) (sym left)
    (subst (λ (l : List B). ∥ AllZip R (xs ++ x ∷ []) l ∥₁) (sym right)
    (∥∥₁_elim all ∥∥₁_prop (λ a. ∥∥₁_map one (λ o. zip-push R xs ys x y a o))))

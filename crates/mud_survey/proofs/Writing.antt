-- Texts that are written piece by piece.
use Rattle.std.proofs.Common.{◌≡◌, ℕ, ◌+◌, ◌<◌, List, [], ◌∷◌, ◌++◌, length, get_or, take, sym, ◌∙◌, ap, append_assoc}
use Rattle.std.specs.Prelude.{Result, Ok, Err, OnOk, if◌then◌else◌}
use Rattle.std.specs.Result.{is_ok}
use Rattle.std.specs.List.{flat_map}
use Rattle.std.proofs.lemmas.List.{append-nil, take_more}
use Rattle.std.proofs.lemmas.List.Concat.{flat_map-append}

-- a piece, and one more
pub piece : (x y t r z : List ℕ) → y ≡ x ++ t → z ≡ y ++ r → z ≡ x ++ (t ++ r)
piece x y t r z one two = two ∙ ap (λ l. l ++ r) one ∙ append_assoc x t r

-- two pieces at once
pub pieces : (x y t r s z : List ℕ) → y ≡ x ++ t → z ≡ y ++ (r ++ s) → z ≡ x ++ (t ++ r ++ s)
pieces x y t r s z one two = piece x y t (r ++ s) z one two ∙ ap (λ l. x ++ l) (sym (append_assoc t r s))

-- two pieces after a whole text
pub onto : (y t r s z : List ℕ) → y ≡ t → z ≡ y ++ (r ++ s) → z ≡ t ++ r ++ s
onto y t r s z one two = two ∙ ap (λ l. l ++ (r ++ s)) one ∙ sym (append_assoc t r s)

-- the texts of the elements so far, and one more
pub element : {X : Type 0} (f : X → List ℕ) (xs : List X) (i : ℕ) (d : X) (x y z : List ℕ) → i < length xs
    → y ≡ x ++ flat_map f (take i xs) → z ≡ y ++ f (get_or xs i d) → z ≡ x ++ flat_map f (take (i + 1) xs)
element f xs i d x y z less before more =
    piece x y (flat_map f (take i xs)) (f (get_or xs i d)) z before more
    ∙ ap (λ l. x ++ l) (sym (ap (flat_map f) (take_more xs i d less)
    ∙ flat_map-append f (take i xs) (get_or xs i d ∷ [])
    ∙ ap (λ l. flat_map f (take i xs) ++ l) (append-nil (f (get_or xs i d)))))

-- the last piece, where it was written
pub last : {T E : Type 0} (r : Result T E) (b x y : List ℕ) → b ≡ (if is_ok r then x else y) → OnOk r (b ≡ x)
last (Ok v) b x y is = is
last (Err v) b x y is = tt

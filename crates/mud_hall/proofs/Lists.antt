-- Facts about each of the first elements of a list, and the versions of one desk's entries.
use Rattle.std.proofs.Common.{◌≡◌, ℕ, zero, suc, ◌+◌, ◌<◌, List, [], ◌∷◌, ◌++◌, length, take, drop, get_or}
use Rattle.std.proofs.Common.{Some, slice_get}
use Rattle.std.proofs.Common.{sym, ap, ◌∙◌, subst, arith, add-one, append_assoc, length-drop}
use Rattle.std.proofs.lemmas.List.{append-nil, get_or-drop}
use Rattle.std.proofs.lemmas.Option.{slice_get_within, slice_get-get_or, get_or_from_slice_get}
use Rattle.std.proofs.Math.Seq.{take-suc}
use Rattle.std.proofs.lemmas.List.Elements.{All-append}
use Rattle.std.specs.Prelude.{All, ◌==◌, if◌then◌else◌}
use Rattle.mud_chron.specs.Entry.{Entry}
use Rattle.mud_hall.specs.Settlement.{versions_by}

pub take_snoc : {X : Type 0} (xs : List X) (i : ℕ) (d x : X) → i < length xs → x ≡ get_or xs i d
    → take (i + 1) xs ≡ take i xs ++ x ∷ []
take_snoc xs i d x lt at = rw (add-one i) (take-suc xs i d lt ∙ ap (λ z. take i xs ++ z ∷ []) (sym at))

pub all_one : {X : Type 0} (P : X → Type 0) (x : X) → P x → All P (x ∷ [])
all_one P x p zero d lt = p
all_one P x p (suc k) d lt = absurd (omega arith)

-- a property of the first i and of the next holds for the first i + 1
pub all_snoc : {X : Type 0} (P : X → Type 0) (xs : List X) (i : ℕ) (d x : X) → All P (take i xs) → i < length xs
    → x ≡ get_or xs i d → P x → All P (take (i + 1) xs)
all_snoc {X} P xs i d x all lt at p =
    let Q : List X → Type 0 = λ ys. All P ys in
    subst Q (sym (take_snoc xs i d x lt at)) (All-append P (take i xs) (x ∷ []) all (all_one P x p))

pub all_weaken : {X : Type 0} (P Q : X → Type 0) (xs : List X) → ((x : X) → P x → Q x) → All P xs → All Q xs
all_weaken P Q xs f all k d lt = f (get_or xs k d) (all k d lt)

pub versions-snoc : (n v : ℕ) (es : List Entry) (e : Entry)
    → versions_by n v (es ++ e ∷ []) ≡ versions_by n v es ++ (if e.desk == n then (v + length es) ∷ [] else [])
versions-snoc n v [] e =
    let same : v ≡ v + 0 = omega arith in
    append-nil (if e.desk == n then v ∷ [] else []) ∙ ap (λ k. if e.desk == n then k ∷ [] else []) same
versions-snoc n v (x ∷ es) e =
    let head : List ℕ = if x.desk == n then v ∷ [] else [] in
    let rest : List ℕ = versions_by n (v + 1) es in
    let same : (v + 1) + length es ≡ v + suc (length es) = omega arith in
    ap (λ w. head ++ w)
    (versions-snoc n (v + 1) es e ∙ ap (λ k. rest ++ (if e.desk == n then k ∷ [] else [])) same)
    ∙ sym (append_assoc head rest (if e.desk == n then (v + suc (length es)) ∷ [] else []))

-- the element at a place after the first n
pub slice_get-drop : {X : Type 0} (xs : List X) (n i : ℕ) (x : X) → slice_get xs (n + i) ≡ Some x
    → slice_get (drop n xs) i ≡ Some x
slice_get-drop xs n i x at =
    let lt : n + i < length xs = slice_get_within xs (n + i) x at in
    let within : i < length (drop n xs) = omega (arith, lt, length-drop n xs) in
    slice_get-get_or (drop n xs) i x within
    ∙ ap Some (get_or-drop n xs i x ∙ get_or_from_slice_get xs (n + i) x x at)

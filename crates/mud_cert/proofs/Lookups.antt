-- The label that the search finds is the first one of the room.
use Rattle.std.proofs.Common.{◌≡◌, ℕ, ◌<◌, List, [], ◌∷◌, length, get_or, None, Some, Bool, true, false, cond, refl, ap}
use Rattle.std.proofs.Common.{◌∙◌, eqb, zero, suc, arith, eq-eqb}
use Rattle.std.specs.Prelude.{option_map}
use Rattle.std.specs.List.{find}
use Rattle.std.proofs.lemmas.Bool.{ne_eqb}
use Rattle.mud_roads.specs.declared.label.Label.{Label}
use Rattle.mud_cert.specs.inner.Labels.{Rises, label_in}

-- the first label, or one after it
pub label-here : (e : ℕ × Label) (es : List (ℕ × Label)) (room : ℕ) → eqb e.0 room ≡ true
    → label_in (e ∷ es) room ≡ Some e.1
label-here e es room is =
    ap (λ (b : Bool). option_map (λ (x : ℕ × Label). x.1) (cond b (Some e) (find (λ (x : ℕ × Label). eqb x.0 room) es)))
    is

pub label-behind : (e : ℕ × Label) (es : List (ℕ × Label)) (room : ℕ) → eqb e.0 room ≡ false
    → label_in (e ∷ es) room ≡ label_in es room
label-behind e es room other =
    ap (λ (b : Bool). option_map (λ (x : ℕ × Label). x.1) (cond b (Some e) (find (λ (x : ℕ × Label). eqb x.0 room) es)))
    other

pub rises-tail : (e : ℕ × Label) (es : List (ℕ × Label)) → Rises (e ∷ es) → Rises es
rises-tail e es r i j d lt within = r (suc i) (suc j) d (omega arith) (omega arith)

-- the label at a place is found by its room
pub label-found : (es : List (ℕ × Label)) (room i : ℕ) (d : ℕ × Label) → Rises es → i < length es
    → (get_or es i d).0 ≡ room → label_in es room ≡ Some (get_or es i d).1
label-found [] room i d r lt e = absurd (omega arith)
label-found (x ∷ es) room zero d r lt e = label-here x es room (eq-eqb x.0 room e)
label-found (x ∷ es) room (suc i) d r lt e =
    let below : x.0 < (get_or es i d).0 = r 0 (suc i) d (omega arith) lt in
    let other : x.0 ≡ room → ⊥ = λ same. omega arith in
    label-behind x es room (ne_eqb x.0 room other)
    ∙ label-found es room i d (rises-tail x es r) (omega arith) e

-- a room that is at no place has no label
pub label-missing : (es : List (ℕ × Label)) (room : ℕ)
    → ((i : ℕ) (d : ℕ × Label) → i < length es → (get_or es i d).0 ≡ room → ⊥) → label_in es room ≡ None
label-missing [] room none = refl
label-missing (x ∷ es) room none =
    label-behind x es room (ne_eqb x.0 room (none 0 x (omega arith)))
    ∙ label-missing es room (λ i d lt. none (suc i) d (omega arith))

-- A fact about two parts of a party holds for the whole, and conversely.
use Rattle.std.proofs.Common.{◌≡◌, ℕ, ◌+◌, ◌<◌, List, [], ◌∷◌, ◌++◌, length, Option, Some}
use Rattle.std.proofs.Common.{◌∙◌, ap, subst, ap₂, arith}
use Rattle.std.specs.Prelude.{All, slice_get}
use Rattle.std.specs.List.{AllZip}
use Rattle.std.proofs.lemmas.List.{get_or_append_left, get_or-append-add, length-append, map-append}
use Rattle.std.proofs.lemmas.List.Elements.{All-append}
use Rattle.std.proofs.lemmas.Option.{slice_get_within, get_or_from_slice_get, slice_get-get_or}
use Rattle.mud_world.specs.State.{State}
use Rattle.mud_roads.specs.declared.label.Label.{Label}
use Rattle.mud_roads.specs.Passable.{Knowledge, IsTraveller, roads_of}
use Rattle.mud_roads.specs.Walks.{Least}
use Rattle.mud_guide.specs.inner.Travellers.{AreTravellers, AreMembers}

-- a member of the first part keeps its index
front-member : {X : Type 0} → (xs ys : List X) (m : ℕ) (x : X) → slice_get xs m ≡ Some x
    → slice_get (xs ++ ys) m ≡ Some x
front-member xs ys m x is =
    let h = slice_get_within xs m x is in
    let fits : m < length (xs ++ ys) = omega (arith, h, length-append xs ys) in
    slice_get-get_or (xs ++ ys) m x fits
    ∙ ap Some (get_or_append_left xs ys x m h ∙ get_or_from_slice_get xs m x x is)

-- a member of the second part comes after them
back-member : {X : Type 0} → (xs ys : List X) (m : ℕ) (x : X) → slice_get ys m ≡ Some x
    → slice_get (xs ++ ys) (length xs + m) ≡ Some x
back-member xs ys m x is =
    let h = slice_get_within ys m x is in
    let fits : length xs + m < length (xs ++ ys) = omega (arith, h, length-append xs ys) in
    slice_get-get_or (xs ++ ys) (length xs + m) x fits
    ∙ ap Some (get_or-append-add xs ys m x ∙ get_or_from_slice_get ys m x x is)

-- a fact about all holds for the first part
all-front : {X : Type 0} → (P : X → Type 0) (xs ys : List X) → All P (xs ++ ys) → All P xs
all-front P xs ys all k d h =
    subst P (get_or_append_left xs ys d k h) (all k d (omega (arith, h, length-append xs ys)))

-- and for the second
all-back : {X : Type 0} → (P : X → Type 0) (xs ys : List X) → All P (xs ++ ys) → All P ys
all-back P xs ys all k d h =
    subst P (get_or-append-add xs ys k d) (all (length xs + k) d (omega (arith, h, length-append xs ys)))

-- the travellers of two parts
pub travellers-beside : (w : State) (ps qs : List ℕ) (ss ts : List Knowledge) → AreTravellers w ps ss
    → AreTravellers w qs ts → AreTravellers w (ps ++ qs) (ss ++ ts)
travellers-beside w ps qs ss ts front back = (
  All-append (IsTraveller w) ss ts front.0 back.0,
  map-append (λ t. t.player) ss ts ∙ ap₂ ◌++◌ front.1 back.1,
)

-- the first members of a party
pub members_front : (w : State) (labels : ℕ → ℕ → Option Label) (first : ℕ) (ts xs ys : List Knowledge)
    → AreMembers w labels first ts → ts ≡ xs ++ ys → AreMembers w labels first xs
members_front w labels first ts xs ys these parted =
    let are : AreMembers w labels first (xs ++ ys) = subst (AreMembers w labels first) parted these in
    record {
      travellers = all-front (IsTraveller w) xs ys are.travellers;
      least = λ m room t is. are.least m room t (front-member xs ys m t is);
      few = omega (arith, are.few, length-append xs ys);
    }

-- the others
pub members_back : (w : State) (labels : ℕ → ℕ → Option Label) (first behind : ℕ) (ts xs ys : List Knowledge)
    → AreMembers w labels first ts → ts ≡ xs ++ ys → behind ≡ first + length xs → AreMembers w labels behind ys
members_back w labels first behind ts xs ys these parted at =
    let are : AreMembers w labels first (xs ++ ys) = subst (AreMembers w labels first) parted these in
    record {
      travellers = all-back (IsTraveller w) xs ys are.travellers;
      least = λ m room t is.
          let P : ℕ → Type 0 = λ k. Least 1 (roads_of w t.player) t.place room (labels k room) in
          let same : first + (length xs + m) ≡ behind + m = omega (arith, at) in
          subst P same (are.least (length xs + m) room t (back-member xs ys m t is));
      few = omega (arith, are.few, at, length-append xs ys);
    }

-- two lists that agree element by element, followed by two more that do
pub allzip-beside : {A B : Type 0} (R : A → B → Type 0) (us xs : List A) (vs ys : List B) → AllZip R us vs
    → AllZip R xs ys → AllZip R (us ++ xs) (vs ++ ys)
allzip-beside R [] xs [] ys h k = k
allzip-beside R [] xs (b ∷ vs) ys h k = absurd h
allzip-beside R (a ∷ us) xs [] ys h k = absurd h
allzip-beside R (a ∷ us) xs (b ∷ vs) ys h k = (h.0, allzip-beside R us xs vs ys h.1 k)

-- The fields of a head, in order.
use Rattle.std.proofs.Common.{◌≡◌, ℕ, ◌+◌, ◌<◌, ◌≤◌, Bool, true, false, if◌then◌else◌, ◌||◌, List, []}
use Rattle.std.proofs.Common.{◌∷◌, ◌++◌, length}
use Rattle.std.proofs.Common.{take, get_or, map, refl, sym, ap}
use Rattle.std.specs.List.{flat_map, list_any}
use Rattle.std.proofs.lemmas.List.{take_more, take_all, map-append}
use Rattle.std.proofs.lemmas.List.Concat.{flat_map-append}
use Rattle.std.proofs.lemmas.List.Folds.{list_any-append}
use Rattle.httparse.specs.declared.spans.HeaderSpan.{HeaderSpan}
use Rattle.httparse.specs.Spans.{header_bytes}
use Rattle.websocket.specs.Headers.{Fields, fields_of, eq_ignore_case}
use Rattle.mud_web.specs.declared.fields.Found.{Found}
use Rattle.mud_web.specs.Fields.{values, members_of, has_member}
use Rattle.mud_web.specs.inner.Found.{IsFound}

pub any_map : {X : Type 0} (test : X → Bool) (f : X → X) (xs : List X)
    → list_any (λ x. test (f x)) xs ≡ list_any test (map f xs)
any_map test f [] = refl
any_map test f (x ∷ xs) = ap (λ (b : Bool). test (f x) || b) (any_map test f xs)

-- ---- by their names

values_if : (t : Bool) (value : List ℕ) (one more : List (List ℕ))
    → (if t then value ∷ (one ++ more) else (one ++ more)) ≡ (if t then value ∷ one else one) ++ more
values_if true value one more = refl
values_if false value one more = refl

values-append : (some more : Fields) (name : List ℕ) → values (some ++ more) name ≡ values some name ++ values more name
values-append [] more name = refl
values-append (field ∷ some) more name =
    rw (values-append some more name)
    (values_if (eq_ignore_case field.0 name) field.1 (values some name) (values more name))

pub values_more : (buf : List ℕ) (spans : List HeaderSpan) (name : List ℕ) (i : ℕ) (d : HeaderSpan) → i < length spans
    → values (fields_of buf (take (i + 1) spans)) name
    ≡ values (fields_of buf (take i spans)) name ++ values (header_bytes buf (get_or spans i d) ∷ []) name
values_more buf spans name i d inside =
    rw (take_more spans i d inside, map-append (header_bytes buf) (take i spans) (get_or spans i d ∷ []))
    (values-append (fields_of buf (take i spans)) (fields_of buf (get_or spans i d ∷ [])) name)

pub found_more : (buf : List ℕ) (spans : List HeaderSpan) (name : List ℕ) (i : ℕ) (d : HeaderSpan) (found : Found)
    → i < length spans
    → IsFound found (values (fields_of buf (take i spans)) name
    ++ values (header_bytes buf (get_or spans i d) ∷ []) name)
    → IsFound found (values (fields_of buf (take (i + 1) spans)) name)
found_more buf spans name i d found inside is = rw (values_more buf spans name i d inside) is

pub found_all : (buf : List ℕ) (spans : List HeaderSpan) (name : List ℕ) (i : ℕ) (found : Found)
    → length spans ≤ i → IsFound found (values (fields_of buf (take i spans)) name)
    → IsFound found (values (fields_of buf spans) name)
found_all buf spans name i found all is = rw (take_all i spans all) at is

-- ---- lists

member-append : (some more : Fields) (name wanted : List ℕ)
    → has_member (some ++ more) name wanted ≡ (has_member some name wanted || has_member more name wanted)
member-append some more name wanted =
    rw (values-append some more name, flat_map-append members_of (values some name) (values more name))
    (list_any-append (λ m. eq_ignore_case m wanted) (flat_map members_of (values some name))
    (flat_map members_of (values more name)))

pub member_more : (buf : List ℕ) (spans : List HeaderSpan) (name wanted : List ℕ) (i : ℕ) (d : HeaderSpan) (has : Bool)
    → i < length spans → has ≡ has_member (fields_of buf (take i spans)) name wanted
    → (has || has_member (header_bytes buf (get_or spans i d) ∷ []) name wanted)
    ≡ has_member (fields_of buf (take (i + 1) spans)) name wanted
member_more buf spans name wanted i d has inside is =
    rw (is, take_more spans i d inside, map-append (header_bytes buf) (take i spans) (get_or spans i d ∷ []))
    (sym (member-append (fields_of buf (take i spans)) (fields_of buf (get_or spans i d ∷ [])) name wanted))

pub member_all : (buf : List ℕ) (spans : List HeaderSpan) (name wanted : List ℕ) (i : ℕ) (has : Bool)
    → length spans ≤ i → has ≡ has_member (fields_of buf (take i spans)) name wanted
    → has ≡ has_member (fields_of buf spans) name wanted
member_all buf spans name wanted i has all is = rw (take_all i spans all) at is

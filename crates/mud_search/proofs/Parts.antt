-- The labels found for two parts of a party are those of the whole party.
use Rattle.std.proofs.Common.{◌≡◌, ℕ, ◌-◌, ◌<◌, ◌≤◌, inl, inr, List, [], ◌++◌, length, get_or, Option, None, Some}
use Rattle.std.proofs.Common.{refl, sym, ◌∙◌, ap, subst, arith}
use Rattle.std.specs.Prelude.{slice_get}
use Rattle.std.proofs.lemmas.Bool.{cases_lt}
use Rattle.std.proofs.lemmas.List.{get_or_append_left, get_or-append_right, length-append}
use Rattle.std.proofs.lemmas.Option.{slice_get_within, get_or_from_slice_get, slice_get-get_or}
use Rattle.mud_world.specs.State.{State}
use Rattle.mud_roads.specs.declared.label.Label.{Label}
use Rattle.mud_roads.specs.Walks.{Least}
use Rattle.mud_roads.specs.Passable.{Knowledge, roads_of}
use Rattle.mud_search.specs.Least.{label_in}
use Rattle.mud_search.specs.Tables.{Table, table}
use Rattle.mud_search.specs.inner.Tables.{lists_in}
use Rattle.mud_search.specs.inner.Travellers.{AreFound}

-- two tables, concatenated
abbrev pub beside : Table (Option Label) → Table (Option Label) → Table (Option Label)
beside a b = table (lists_in a ++ lists_in b)

-- the first members' labels are those of the first table
label-front : (a b : Table (Option Label)) (m room : ℕ) → m < length (lists_in a)
    → label_in (beside a b) m room ≡ label_in a m room
label-front a b m room h =
    ap (λ row. get_or row room None) (get_or_append_left (lists_in a) (lists_in b) [] m h)

-- the others' are those of the second
label-back : (a b : Table (Option Label)) (m room : ℕ) → length (lists_in a) ≤ m
    → label_in (beside a b) m room ≡ label_in b (m - length (lists_in a)) room
label-back a b m room h =
    ap (λ row. get_or row room None)
    (get_or-append_right (lists_in a) (lists_in b) (length (lists_in a)) m [] refl h)

-- a member before the end of the first list is one of the first
member-front : {X : Type 0} → (xs ys : List X) (m : ℕ) (x : X) → m < length xs
    → slice_get (xs ++ ys) m ≡ Some x → slice_get xs m ≡ Some x
member-front xs ys m x h is =
    slice_get-get_or xs m x h
    ∙ ap Some (sym (get_or_append_left xs ys x m h) ∙ get_or_from_slice_get (xs ++ ys) m x x is)

-- another is one of the others
member-back : {X : Type 0} → (xs ys : List X) (m : ℕ) (x : X) → length xs ≤ m
    → slice_get (xs ++ ys) m ≡ Some x → slice_get ys (m - length xs) ≡ Some x
member-back xs ys m x h is =
    let within = slice_get_within (xs ++ ys) m x is in
    let fits : m - length xs < length ys = omega (arith, h, within, length-append xs ys) in
    slice_get-get_or ys (m - length xs) x fits
    ∙ ap Some (sym (get_or-append_right xs ys (length xs) m x refl h) ∙ get_or_from_slice_get (xs ++ ys) m x x is)

-- the labels found for two parts, concatenated, are those of the whole
pub found-beside : (w : State) (xs ys : List Knowledge) (a b : Table (Option Label))
    → AreFound w xs a → AreFound w ys b → AreFound w (xs ++ ys) (beside a b)
found-beside w xs ys a b front back = record {
  count = omega (arith, length-append xs ys, length-append (lists_in a) (lists_in b), front.count, back.count);
  least = λ m room t is.
      let P : Option Label → Type 0 = λ o. Least 1 (roads_of w t.player) t.place room o in
      elim (cases_lt m (length xs)) [
        | inl h ↦ subst P (sym (label-front a b m room (omega (arith, front.count, h))))
            (front.least m room t (member-front xs ys m t h is))
        | inr h ↦ subst P (sym (label-back a b m room (omega (arith, front.count, h))))
            (back.least (m - length (lists_in a)) room t
            (subst (λ (k : ℕ). slice_get ys (m - k) ≡ Some t) (sym front.count) (member-back xs ys m t h is)))
      ];
  bounded = λ m room l is.
      elim (cases_lt m (length (lists_in a))) [
        | inl h ↦ front.bounded m room l (sym (label-front a b m room h) ∙ is)
        | inr h ↦ back.bounded (m - length (lists_in a)) room l (sym (label-back a b m room h) ∙ is)
      ];
}

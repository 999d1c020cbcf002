-- The lists of contents, and of leaving and arriving exits, in terms of places, sources and destinations.
use Rattle.std.proofs.Common.{◌≡◌, ℕ, ◌+◌, ◌≤◌, Bool, true, false, List, [], ◌∷◌, Option, Some, None, refl, sym, ◌∙◌}
use Rattle.std.proofs.Common.{ap, subst, arith}
use Rattle.std.specs.Prelude.{nat_eq, IsTrue, ◌↔◌}
use Rattle.std.specs.Option.{option_map, option_map_or, option_and_then}
use Rattle.std.specs.List.{list_any}
use Rattle.std.proofs.lemmas.Bool.{eq-eqb, eqb-true, true≢false, or_left}
use Rattle.mud_world.specs.declared.record.Passage.{Passage}
use Rattle.mud_world.specs.declared.record.Record.{Record}
use Rattle.mud_world.specs.declared.record.Kind.{Kind}
use Rattle.mud_world.specs.declared.record.Kind.TheVariants.{Room, Exit, Thing, Player}
use Rattle.mud_world.specs.Kinds.{kind_place, kind_passage}
use Rattle.mud_world.specs.Numbers.{IsRisingFrom}
use Rattle.mud_world.specs.State.{State, record_at, is_number, passage_of, is_room, source_of, leaving_of}
use Rattle.mud_world.specs.Sound.{IsRising, IsSound, IsPlacedWell}
use Rattle.mud_world.specs.Laws.{AreContents, AreLeaving, AreArriving}
use Rattle.mud_world.proofs.Records.{bool_cases, record_cases}
use Rattle.mud_world.proofs.Numbering.{passing, passing_by}
use Rattle.mud_world.proofs.Carrying.{listed}

lower : (low low' : ℕ) (xs : List ℕ) → low ≤ low' → IsRisingFrom low' xs → IsRisingFrom low xs
lower low low' [] le rises = tt
lower low low' (x ∷ xs) le rises = (omega (arith, rises.0), rises.1)

rising-passing : (test : Record → Bool) (low high : ℕ) (es : List (ℕ × Record)) → IsRising low es high
    → IsRisingFrom low (passing test es)
rising-passing test low high [] rises = tt
rising-passing test low high (e ∷ es) rises =
    let rest = rising-passing test (e.0 + 1) high es rises.1 in
    bool_cases (test e.1)
    (λ in'. subst (λ (v : List ℕ). IsRisingFrom low v) (sym (passing_by test e es true in')) (rises.0, rest))
    (λ out. subst (λ (v : List ℕ). IsRisingFrom low v) (sym (passing_by test e es false out))
    (lower low (e.0 + 1) (passing test es) (omega (arith, rises.0)) rest))

same_number : (n : ℕ) (v : Option ℕ) → (is_number n v ≡ true) ↔ (v ≡ Some n)
same_number n None = (λ e. absurd (true≢false (sym e)), λ e. let bad : None ≡ Some n = e in absurd (cc))
same_number n (Some p) =
    (λ e. ap (λ x. Some x) (sym (eqb-true n p e)), λ e. let same : p ≡ n = cc in eq-eqb n p (sym same))

same_found : (f : Record → Option ℕ) (n : ℕ) (v : Option Record)
    → (option_map_or (λ r. is_number n (f r)) v false ≡ true) ↔ (option_and_then f v ≡ Some n)
same_found f n None = (λ e. absurd (true≢false (sym e)), λ e. let bad : None ≡ Some n = e in absurd (cc))
same_found f n (Some r) = same_number n (f r)

-- an object is in the list of the number that its record gives
listed-said : (f : Record → Option ℕ) (w : State) → IsSound w → (c n : ℕ)
    → IsTrue (list_any (nat_eq n) (passing (λ r. is_number c (f r)) w.objects))
    ↔ (option_and_then f (record_at w n) ≡ Some c)
listed-said f w sound c n =
    let is = listed (λ r. is_number c (f r)) n 0 w.next w.objects sound.rising in
    let same = same_found f c (record_at w n) in
    (λ among. same.0 (sym is ∙ among), λ at. is ∙ same.1 at)

pub contents_law : AreContents
contents_law = λ w sound c. (
  λ n. listed-said (λ r. kind_place r.kind) w sound c n,
  rising-passing (λ r. is_number c (kind_place r.kind)) 0 w.next w.objects sound.rising,
)

end-said : (end : Passage → ℕ) (v : Option Record)
    → option_and_then (λ r. option_map end (kind_passage r.kind)) v
    ≡ option_map end (option_and_then (λ r. kind_passage r.kind) v)
end-said end None = refl
end-said end (Some r) = refl

-- for exits whose records give a number as one of their ends
ends_law : (end : Passage → ℕ) (w : State) → IsSound w → (c : ℕ)
    → ((n : ℕ)
    → IsTrue (list_any (nat_eq n) (passing (λ r. is_number c (option_map end (kind_passage r.kind))) w.objects))
    ↔ (option_map end (passage_of w n) ≡ Some c))
    × IsRisingFrom 0 (passing (λ r. is_number c (option_map end (kind_passage r.kind))) w.objects)
ends_law end w sound c = (
  λ n.
      let same = listed-said (λ r. option_map end (kind_passage r.kind)) w sound c n in
      let said = end-said end (record_at w n) in
      (λ among. sym said ∙ same.0 among, λ at. same.1 (said ∙ at)),
  rising-passing (λ r. is_number c (option_map end (kind_passage r.kind))) 0 w.next w.objects sound.rising,
)

pub leaving_law : AreLeaving
leaving_law = λ w sound c. ends_law (λ p. p.source) w sound c

pub arriving_law : AreArriving
arriving_law = λ w sound c. ends_law (λ p. p.destination) w sound c

source-room : (w : State) → IsSound w → (x n : ℕ) → source_of w x ≡ Some n → is_room w n ≡ true
source-room w sound x n at =
    record_cases (record_at w x)
    (λ e. let bad : None ≡ Some n =
    sym (ap (λ v. option_map (λ p. p.source) (option_and_then (λ r. kind_passage r.kind) v)) e) ∙ at in absurd (cc))
    (λ r e. room_of r.kind
    (sym (ap (λ v. option_map (λ p. p.source) (option_and_then (λ r. kind_passage r.kind) v)) e) ∙ at)
    (sound.placed x r e))
  where
    room_of : (k : Kind) → option_map (λ p. p.source) (kind_passage k) ≡ Some n → IsPlacedWell w k → is_room w n ≡ true
    room_of Room e well = absurd (let bad : None ≡ Some n = e in cc)
    room_of (Exit p) e well = let same : p.source ≡ n = cc in subst (λ (v : ℕ). is_room w v ≡ true) same well.0
    room_of (Thing p) e well = absurd (let bad : None ≡ Some n = e in cc)
    room_of (Player p) e well = absurd (let bad : None ≡ Some n = e in cc)

-- no exit leaves an object that is not a room
pub none-leave : (w : State) → IsSound w → (n : ℕ) → is_room w n ≡ false → leaving_of w n ≡ []
none-leave w sound n out =
    empty (leaving_of w n)
    (λ x among. true≢false (sym (source-room w sound x n (((leaving_law w sound n).0 x).0 among)) ∙ out))
  where
    empty : (xs : List ℕ) → ((x : ℕ) → IsTrue (list_any (nat_eq x) xs) → ⊥) → xs ≡ []
    empty [] none = refl
    empty (x ∷ xs) none = absurd (none x (or_left (nat_eq x x) _ (eq-eqb x x refl)))

-- The roads by the exits that pass a test, when the cost of an exit changes.
use Rattle.std.proofs.Common.{◌≡◌, ℕ, Bool, true, false, ◌&&◌, cond, List, [], ◌∷◌, map, Option, Some, None, refl, sym}
use Rattle.std.proofs.Common.{◌∙◌, ap, ⊎_elim}
use Rattle.std.specs.Prelude.{nat_eq, if◌then◌else◌}
use Rattle.std.specs.Option.{option_map, option_map_or, option_and_then}
use Rattle.std.specs.List.{filter_map, cons_option}
use Rattle.std.proofs.lemmas.Bool.{eqb-true, eq-eqb, ne_eqb, cases_eq}
use Rattle.mud_world.specs.declared.record.Passage.{Passage}
use Rattle.mud_world.specs.declared.record.Record.{Record}
use Rattle.mud_world.specs.declared.record.Kind.{Kind}
use Rattle.mud_world.specs.declared.record.Kind.TheVariants.{Room, Exit, Thing, Player}
use Rattle.mud_world.specs.Kinds.{kind_passage, kind_costing}
use Rattle.mud_world.specs.State.{State, record_at, passage_of, leaving_of}
use Rattle.mud_world.specs.inner.Fields.{with_record}
use Rattle.mud_world.proofs.Records.{bool_cases, lookup-set_value_same, lookup-set_value_other}
use Rattle.mud_world.proofs.Recycling.{with_this_cost}
use Rattle.mud_roads.specs.declared.label.Step.{Step}
use Rattle.mud_roads.specs.Passable.{step_by, tested_step, tested_roads}
use Rattle.mud_roads.specs.inner.Tables.{costing}

-- the ends of exit n, with this cost if it is exit x
abbrev pub passage_costing : ℕ → ℕ → ℕ → Passage → Passage
passage_costing x cost n a = if nat_eq x n then record a { cost = cost } else a

same_destination : (x cost n : ℕ) (a : Passage) → (passage_costing x cost n a).destination ≡ a.destination
same_destination x cost n a =
    bool_cases (nat_eq x n)
    (λ e. ap (λ (b : Bool). (cond b (record a { cost = cost }) a).destination) e)
    (λ e. ap (λ (b : Bool). (cond b (record a { cost = cost }) a).destination) e)

same_step : (x cost n : ℕ) (a : Passage) → step_by n (passage_costing x cost n a) ≡ costing x cost (step_by n a)
same_step x cost n a =
    bool_cases (nat_eq x n)
    (λ e. ap (λ (b : Bool). step_by n (cond b (record a { cost = cost }) a)) e
    ∙ sym (ap (λ (b : Bool). cond b (record (step_by n a) { cost = cost }) (step_by n a)) e))
    (λ e. ap (λ (b : Bool). step_by n (cond b (record a { cost = cost }) a)) e
    ∙ sym (ap (λ (b : Bool). cond b (record (step_by n a) { cost = cost }) (step_by n a)) e))

filter_map-mapped : (g : Step → Step) (f : ℕ → Option Step) (xs : List ℕ)
    → filter_map (λ n. option_map g (f n)) xs ≡ map g (filter_map f xs)
filter_map-mapped g f [] = refl
filter_map-mapped g f (x ∷ xs) =
    ap (cons_option (option_map g (f x))) (filter_map-mapped g f xs) ∙ one (f x)
  where
    one : (v : Option Step)
        → cons_option (option_map g v) (map g (filter_map f xs)) ≡ map g (cons_option v (filter_map f xs))
    one None = refl
    one (Some s) = refl

-- the two worlds differ in the cost of an exit
module _ (w w' : State) (test : ℕ → Bool) (x cost : ℕ)
    (passages : (n : ℕ) → passage_of w' n ≡ option_map (passage_costing x cost n) (passage_of w n))
    (leaving : (room : ℕ) → leaving_of w' room ≡ leaving_of w room) where
  steps : (n : ℕ) → tested_step w' test n ≡ option_map (costing x cost) (tested_step w test n)
  steps n =
      ap (λ v. cond (option_map_or (λ a. test n && test a.destination) v false) (option_map (step_by n) v) None)
      (passages n)
      ∙ of_passage (passage_of w n)
    where
      of_test : (b : Bool) (a : Passage) → cond b (Some (step_by n (passage_costing x cost n a))) None
          ≡ option_map (costing x cost) (cond b (Some (step_by n a)) None)
      of_test false a = refl
      of_test true a = ap (λ (s : Step). Some s) (same_step x cost n a)

      of_passage : (v : Option Passage)
          → cond (option_map_or (λ a. test n && test a.destination) (option_map (passage_costing x cost n) v) false)
          (option_map (step_by n) (option_map (passage_costing x cost n) v)) None
          ≡ option_map (costing x cost)
          (cond (option_map_or (λ a. test n && test a.destination) v false) (option_map (step_by n) v) None)
      of_passage None = refl
      of_passage (Some a) =
          ap (λ (d : ℕ). cond (test n && test d) (Some (step_by n (passage_costing x cost n a))) None)
          (same_destination x cost n a)
          ∙ of_test (test n && test a.destination) a

  pub roads-recosted : (room : ℕ) → tested_roads w' test room ≡ map (costing x cost) (tested_roads w test room)
  roads-recosted room =
      let again : tested_step w' test ≡ (λ n. option_map (costing x cost) (tested_step w test n)) =
      λ i n. (steps n) i in
      ap (filter_map (tested_step w' test)) (leaving room)
      ∙ ap (λ (f : ℕ → Option Step). filter_map f (leaving_of w room)) again
      ∙ filter_map-mapped (costing x cost) (tested_step w test) (leaving_of w room)

-- a passage that already has this cost
pub passages-same : (w : State) (x : ℕ) (a : Passage) → passage_of w x ≡ Some a → (n : ℕ)
    → passage_of w n ≡ option_map (passage_costing x a.cost n) (passage_of w n)
passages-same w x a at n =
    bool_cases (nat_eq x n)
    (λ e.
    let here : passage_of w n ≡ Some a = ap (passage_of w) (sym (eqb-true x n e)) ∙ at in
    here
    ∙ sym (ap (λ (b : Bool). option_map (λ (a' : Passage). cond b (record a' { cost = a.cost }) a') (passage_of w n)) e
    ∙ ap (option_map (λ (a' : Passage). record a' { cost = a.cost })) here))
    (λ e. sym
    (ap (λ (b : Bool). option_map (λ (a' : Passage). cond b (record a' { cost = a.cost }) a') (passage_of w n)) e
    ∙ same (passage_of w n)))
  where
    same : (v : Option Passage) → option_map (λ (a' : Passage). a') v ≡ v
    same None = refl
    same (Some b) = refl

-- the passages of a world in which the record of exit x has another cost
pub passages-changed : (w : State) (x cost : ℕ) (r : Record) → record_at w x ≡ Some r → (n : ℕ)
    → passage_of (with_record w x (with_this_cost cost r)) n
    ≡ option_map (passage_costing x cost n) (passage_of w n)
passages-changed w x cost r at n =
    ⊎_elim
    (λ (e : n ≡ x).
    ap (passage_of (with_record w x (with_this_cost cost r))) e
    ∙ ap (option_and_then (λ r. kind_passage r.kind)) (lookup-set_value_same x (with_this_cost cost r) r w.objects at)
    ∙ of_kind r.kind
    ∙ ap (option_map {T = Passage} (λ a. record a { cost = cost }))
    (sym (ap (option_and_then (λ r. kind_passage r.kind)) at))
    ∙ sym (ap (λ (b : Bool). option_map (λ (a : Passage). cond b (record a { cost = cost }) a) (passage_of w x))
    (eq-eqb x x refl))
    ∙ sym (ap (λ (m : ℕ). option_map (passage_costing x cost m) (passage_of w m)) e))
    (λ apart.
    ap (option_and_then (λ r. kind_passage r.kind))
    (lookup-set_value_other x n apart (with_this_cost cost r) w.objects)
    ∙ sym (ap (λ (b : Bool). option_map (λ (a : Passage). cond b (record a { cost = cost }) a) (passage_of w n))
    (ne_eqb x n (λ same. apart (sym same)))
    ∙ same (passage_of w n)))
    (cases_eq n x)
  where
    of_kind : (k : Kind)
        → kind_passage (kind_costing cost k) ≡ option_map {T = Passage} (λ a. record a { cost = cost }) (kind_passage k)
    of_kind Room = refl
    of_kind (Exit p) = refl
    of_kind (Thing p) = refl
    of_kind (Player p) = refl

    same : (v : Option Passage) → option_map (λ (a : Passage). a) v ≡ v
    same None = refl
    same (Some b) = refl

-- the two worlds have the same exits
pub roads-alike : (w w' : State) (test : ℕ → Bool) → ((n : ℕ) → passage_of w' n ≡ passage_of w n)
    → ((room : ℕ) → leaving_of w' room ≡ leaving_of w room) → (room : ℕ)
    → tested_roads w' test room ≡ tested_roads w test room
roads-alike w w' test passages leaving room =
    let steps : tested_step w' test ≡ tested_step w test =
    λ i n. (ap (λ v. cond (option_map_or (λ a. test n && test a.destination) v false)
    (option_map (step_by n) v) None) (passages n)) i in
    ap (filter_map (tested_step w' test)) (leaving room)
    ∙ ap (λ (f : ℕ → Option Step). filter_map f (leaving_of w room)) steps

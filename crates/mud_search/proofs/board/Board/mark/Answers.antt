-- The queue and the counts stay correct when a slot changes.
use Rattle.std.proofs.Common.{◌≡◌, ℕ, ◌+◌, ◌-◌, ◌<◌, ◌≤◌, Bool, true, false, cond, List, Option, None, length, get_or}
use Rattle.std.proofs.Common.{set, inl, inr, refl, sym, ◌∙◌, ap, arith, get_or-set_same, get_or-set_other, length-set}
use Rattle.std.specs.Prelude.{count_by}
use Rattle.std.proofs.lemmas.Bool.{cases_eq}
use Rattle.std.proofs.lemmas.List.{get_or_read}
use Rattle.std.proofs.lemmas.List.Sums.{sum_by-set, get_or-le-sum_by}
use Rattle.mud_roads.specs.declared.label.Label.{Label}
use Rattle.mud_search.specs.declared.slot.Slot.{Slot}
use Rattle.mud_search.specs.declared.slot.Slot.TheVariants.{Unknown}
use Rattle.mud_search.specs.Slots.{is_waiting, is_held}
use Rattle.mud_search.specs.inner.Boards.{slot_at, waiting_label}
use Rattle.mud_search.proofs.board.Board.mark.Goals as goal
use mir.Val.{bool_byte}

byte-is : (b : Bool) → bool_byte b ≡ cond b 1 0
byte-is true = refl
byte-is false = refl

-- an element that passes is counted
one-counted : (p : Slot → Bool) (slots : List Slot) (room : ℕ) (old : Slot) (n before : ℕ) → room < length slots
    → old ≡ slot_at slots room → n ≡ count_by p slots → before ≡ bool_byte (p old) → before ≤ n
one-counted p slots room old n before within is count was =
    let f : Slot → ℕ = λ x. cond (p x) 1 0 in
    let one : before ≡ f (slot_at slots room) = was ∙ byte-is (p old) ∙ ap f is in
    let most : f (slot_at slots room) ≤ count_by p slots = get_or-le-sum_by f slots room Unknown within in
    omega arith

-- the count after the change
counted : (p : Slot → Bool) (slots : List Slot) (room : ℕ) (old v : Slot) (n before then : ℕ) → room < length slots
    → old ≡ slot_at slots room → n ≡ count_by p slots → before ≡ bool_byte (p old) → then ≡ bool_byte (p v)
    → n - before + then ≡ count_by p (set slots room v)
counted p slots room old v n before then within is count was now =
    let f : Slot → ℕ = λ x. cond (p x) 1 0 in
    let one : before ≡ f (slot_at slots room) = was ∙ byte-is (p old) ∙ ap f is in
    let two : then ≡ f v = now ∙ byte-is (p v) in
    let most : f (slot_at slots room) ≤ count_by p slots = get_or-le-sum_by f slots room Unknown within in
    let all : count_by p (set slots room v) + f (slot_at slots room) ≡ count_by p slots + f v =
    sum_by-set f slots room v Unknown within in
    omega arith

in-order : (slots : List Slot) (order : List (Option Label)) (room : ℕ) (v : Slot) → room < length slots
    → length order ≡ length slots → ((r : ℕ) → get_or order r None ≡ waiting_label (slot_at slots r))
    → (r : ℕ) → get_or (set order room (waiting_label v)) r None ≡ waiting_label (slot_at (set slots room v) r)
in-order slots order room v within whole before r =
    elim (cases_eq r room) [
      | inl same ↦
          rw same (get_or-set_same order room (waiting_label v) None (omega arith)
          ∙ ap waiting_label (sym (get_or-set_same slots room v Unknown within)))
      | inr other ↦
          get_or-set_other order room r (waiting_label v) None other ∙ before r
          ∙ ap waiting_label (sym (get_or-set_other slots room r v Unknown other))
    ]

pub overflow_sub-self : goal.overflow_sub-self
overflow_sub-self c =
    let slots = c.self.inside.slots.items in
    let within : c.args.room < length slots = omega (arith, ap length c.self.view_is) in
    one-counted is_waiting slots c.args.room c.index.result.now c.self.inside.waiting c.from.result within
    (get_or_read slots c.args.room c.index.result.now within c.index.ensures Unknown) c.self.invariant.waiting_count
    (c.from.ensures ∙ ap bool_byte c.is_waiting.ensures)

pub overflow_sub-self-2 : goal.overflow_sub-self-2
overflow_sub-self-2 c =
    let slots = c.self.inside.slots.items in
    let within : c.args.room < length slots = omega (arith, ap length c.self.view_is) in
    one-counted is_held slots c.args.room c.index.result.now c.self.inside.held c.from-2.result within
    (get_or_read slots c.args.room c.index.result.now within c.index.ensures Unknown) c.self.invariant.held_count
    (c.from-2.ensures ∙ ap bool_byte c.is_held.ensures)

pub set-requires : goal.set-requires
set-requires c = omega (arith, ap length c.self.view_is, c.self.invariant.whole)

pub invariant_of-self : goal.invariant_of-self
invariant_of-self c =
    let slots = c.self.inside.slots.items in
    let within : c.args.room < length slots = omega (arith, ap length c.self.view_is) in
    let old : c.index.result.now ≡ slot_at slots c.args.room =
    get_or_read slots c.args.room c.index.result.now within c.index.ensures Unknown in
    let order : c.set.new.self ≡ set c.self.inside.order c.args.room (waiting_label c.args.slot) =
    c.set.ensures ∙ ap (λ o. set c.self.inside.order c.args.room o) c.waiting_label.ensures in
    let same : length (set slots c.args.room c.args.slot) ≡ length slots = length-set slots c.args.room c.args.slot in
    let whole = c.self.invariant.whole in
    record {
      few = rw same c.self.invariant.few;
      whole = ap length order ∙ length-set c.self.inside.order c.args.room (waiting_label c.args.slot) ∙ whole
          ∙ sym same;
      ordered = λ r. ap (λ (o : List (Option Label)). get_or o r None) order
          ∙ in-order slots c.self.inside.order c.args.room c.args.slot within whole c.self.invariant.ordered r;
      waiting_count = counted is_waiting slots c.args.room c.index.result.now c.args.slot c.self.inside.waiting
          c.from.result c.from-3.result within old c.self.invariant.waiting_count
          (c.from.ensures ∙ ap bool_byte c.is_waiting.ensures)
          (c.from-3.ensures ∙ ap bool_byte c.is_waiting-2.ensures);
      held_count = counted is_held slots c.args.room c.index.result.now c.args.slot c.self.inside.held c.from-2.result
          c.from-4.result within old c.self.invariant.held_count (c.from-2.ensures ∙ ap bool_byte c.is_held.ensures)
          (c.from-4.ensures ∙ ap bool_byte c.is_held-2.ensures);
    }

pub returns : goal.returns
returns c = ap (λ (slots : List Slot). set slots c.args.room c.args.slot) c.self.view_is

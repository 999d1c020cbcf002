use Rattle.std.proofs.Common.{◌≡◌, ◌∙◌, ◌+◌, ◌<◌, ◌≤◌, ℕ, List, Bool, true, false, Some, slice_get, get_or, length, min}
use Rattle.std.proofs.Common.{refl, sym, ap, arith}
use Rattle.std.specs.Prelude.{nat_lt, if◌then◌else◌}
use Rattle.std.proofs.lemmas.Bool.Decides.{nat_tests}
use Rattle.std.proofs.lemmas.Option.{get_or_from_slice_get, slice_get_within}
use Rattle.mud_chron.specs.Entry.{Entry}
use Rattle.mud_hall.proofs.Apart.{left_skip, left_same, left_here, left_more}
use Rattle.mud_hall.proofs.close.differs.Goals as goal
use Rattle.mud_hall.proofs.close.differs.Goals.{then-desk-number+else-next-calls+else-calls-next, else-desk-number}

lesser_is : (a b : ℕ) → min a b ≡ (if nat_lt a b then a else b)
lesser_is a b = go (nat_lt a b) refl
  where
    go : (t : Bool) → nat_lt a b ≡ t → min a b ≡ (if t then a else b)
    go true e = grind (arith, nat_tests)
    go false e = grind (arith, nat_tests)

pub loop-i-preserved : goal.loop-i-preserved
loop-i-preserved c =
    let i = c.loop-i.i in
    let next = c.loop-i.next in
    let n = c.args.number in
    let v = c.args.first in
    let calls = c.args.calls.now in
    let es : List Entry = c.args.new.now in
    let e : Entry = c.desk.ensures.desk.0 in
    let at : slice_get es i ≡ Some e =
    sym (ap (λ (l : List Entry). slice_get l i) c.loop-i.invariant.same) ∙ c.desk.ensures.desk.1 in
    let lt : i < length es = slice_get_within es i e at in
    let here : e ≡ get_or es i e = sym (get_or_from_slice_get es i e e at) in
    let same = c.desk.ensures.same ∙ c.loop-i.invariant.same in
    elim c.if-desk-number.branch [
      | then-desk-number+else-next-calls+else-calls-next w ↦
          let is : e.desk ≡ n = sym c.desk.ensures.desk.2 ∙ w.if-desk-number.true in
          let room : next < length calls = omega arith in
          let step = left_same n v i next calls es e lt here is room w.if-calls-next.false in
          record { same = same; rest = rw w.next-is (step ∙ c.loop-i.invariant.rest); within = omega arith }
      | else-desk-number w ↦
          let apart : e.desk ≡ n → ⊥ = λ own. w.if-desk-number.false (c.desk.ensures.desk.2 ∙ own) in
          let step = left_skip n v i next calls es e lt here apart in
          record { same = same; rest = rw w.next-is (step ∙ c.loop-i.invariant.rest); within = omega arith }
    ]

pub returns-then-next-calls-clause-first : goal.returns-then-next-calls-clause-first
returns-then-next-calls-clause-first c =
    let i : ℕ = c.loop-i.i in
    let es : List Entry = c.args.new.now in
    let e : Entry = c.desk.ensures.desk.0 in
    let at : slice_get es i ≡ Some e =
    sym (ap (λ (l : List Entry). slice_get l i) c.loop-i.invariant.same) ∙ c.desk.ensures.desk.1 in
    let none : length c.args.calls.now ≤ c.loop-i.next = omega arith in
    sym (left_more c.args.number c.args.first i c.loop-i.next c.args.calls.now es e (slice_get_within es i e at)
    (sym (get_or_from_slice_get es i e e at)) (sym c.desk.ensures.desk.2 ∙ c.if-desk-number.true) none)
    ∙ c.loop-i.invariant.rest

pub returns-then-calls-next-clause-first : goal.returns-then-calls-next-clause-first
returns-then-calls-next-clause-first c =
    let i : ℕ = c.loop-i.i in
    let next : ℕ = c.loop-i.next in
    let calls : List ℕ = c.args.calls.now in
    let es : List Entry = c.args.new.now in
    let e : Entry = c.desk.ensures.desk.0 in
    let at : slice_get es i ≡ Some e =
    sym (ap (λ (l : List Entry). slice_get l i) c.loop-i.invariant.same) ∙ c.desk.ensures.desk.1 in
    let room : next < length calls = omega arith in
    ap Some (c.min.ensures ∙ lesser_is (get_or calls next 0) (i + c.args.first))
    ∙ sym (left_here c.args.number c.args.first i next calls es e (slice_get_within es i e at)
    (sym (get_or_from_slice_get es i e e at)) (sym c.desk.ensures.desk.2 ∙ c.if-desk-number.true) room
    c.if-calls-next.true)
    ∙ c.loop-i.invariant.rest

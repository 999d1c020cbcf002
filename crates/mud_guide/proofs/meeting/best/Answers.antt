use Rattle.std.proofs.Common.{ℕ, ◌+◌, Option, sym, ◌∙◌, subst, arith}
use Rattle.std.specs.Prelude.{IfSome, IfNone}
use Rattle.mud_search.specs.Least.{label_in}
use Rattle.mud_cert.specs.declared.cert.Meeting.{Meeting}
use Rattle.mud_guide.specs.inner.Gatherings.{IsGreatest, BestSoFar}
use Rattle.mud_guide.proofs.Gather.{best-skip, best-step, best-some, best-none}
use Rattle.mud_guide.proofs.meeting.best.Goals as goal
use Rattle.mud_guide.proofs.meeting.best.Goals.{in-Some, in_default}

pub loop-room-preserved : goal.loop-room-preserved
loop-room-preserved c =
    let P : Option Meeting → Type 0 =
    λ b. BestSoFar (label_in c.args.labels.now) c.args.members (c.loop-room.room + 1) b in
    let S : Option ℕ → Type 0 =
    λ o. IfSome o (λ cost. IsGreatest (λ m. label_in c.args.labels.now m c.loop-room.room) c.args.members cost) in
    let N : Option ℕ
    → Type 0 = λ o. IfNone o
    ((cost : ℕ) → IsGreatest (λ m. label_in c.args.labels.now m c.loop-room.room) c.args.members cost → ⊥) in
    elim c.match-greatest.branch [
      | in-Some w ↦ subst P (sym (w.best-is ∙ w.lesser-best.ensures))
          (best-step (label_in c.args.labels.now) c.args.members c.loop-room.room w.in-Some.cost c.loop-room.best
          c.loop-room.invariant (subst S w.in-Some.is c.greatest.ensures.some))
      | in_default w ↦ subst P (sym w.best-is)
          (best-skip (label_in c.args.labels.now) c.args.members c.loop-room.room c.loop-room.best c.loop-room.invariant
          (subst N w.in_default.is c.greatest.ensures.none))
    ]

pub returns-clause-some : goal.returns-clause-some
returns-clause-some c = best-some (label_in c.args.labels.now) c.args.members c.loop-room.room c.args.next
    c.loop-room.best (omega arith) c.loop-room.invariant

pub returns-clause-none : goal.returns-clause-none
returns-clause-none c = best-none (label_in c.args.labels.now) c.args.members c.loop-room.room c.args.next
    c.loop-room.best (omega arith) c.loop-room.invariant

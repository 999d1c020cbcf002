use Rattle.std.proofs.Common.{ℕ, ◌+◌, sym, ◌∙◌, subst, arith}
use Rattle.mud_search.specs.Least.{label_in}
use Rattle.mud_guide.specs.inner.Gatherings.{IsGreatest}
use Rattle.mud_guide.proofs.Gather.{greatest-none, greatest-keep, greatest-raise}
use Rattle.mud_guide.proofs.meeting.greatest.Goals as goal
use Rattle.mud_guide.proofs.meeting.greatest.Goals.{then-label-cost, else-label-cost}

pub returns-in_default-clause-none : goal.returns-in_default-clause-none
returns-in_default-clause-none c cost =
    greatest-none (λ m. label_in c.args.labels.now m c.args.room) c.args.members c.loop-member.member cost
    c.loop-member-test.true (sym c.get.ensures ∙ c.in_default.is)

pub loop-member-preserved : goal.loop-member-preserved
loop-member-preserved c =
    let P : ℕ → Type 0 = λ x. IsGreatest (λ m. label_in c.args.labels.now m c.args.room) (c.loop-member.member + 1) x in
    let is = sym c.get.ensures ∙ c.in-Some.is in
    elim c.if-label-cost.branch [
      | then-label-cost w ↦ subst P (sym w.cost-is)
          (greatest-raise (λ m. label_in c.args.labels.now m c.args.room) c.loop-member.member c.loop-member.cost
          c.in-Some.label c.loop-member.invariant is (omega arith))
      | else-label-cost w ↦ subst P (sym w.cost-is)
          (greatest-keep (λ m. label_in c.args.labels.now m c.args.room) c.loop-member.member c.loop-member.cost
          c.in-Some.label c.loop-member.invariant is (omega arith))
    ]

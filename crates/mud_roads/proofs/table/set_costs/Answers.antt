use Rattle.std.proofs.Common.{◌≡◌, ℕ, ◌<◌, length, get_or, set, sym, ◌∙◌, ap, arith}
use Rattle.std.proofs.lemmas.Bool.Decides.{nat_tests}
use Rattle.std.proofs.lemmas.List.{get_or_default}
use Rattle.std.proofs.lemmas.List.Edits.{map_over_more}
use Rattle.mud_roads.specs.declared.label.Step.{Step}
use Rattle.mud_roads.specs.inner.Tables.{costing}
use Rattle.mud_roads.proofs.table.set_costs.Goals as goal
use Rattle.mud_roads.proofs.table.set_costs.Goals.{then-step-exit, else-step-exit}

costing-same : (exit cost : ℕ) (step : Step) → step.exit ≡ exit → costing exit cost step ≡ record step { cost = cost }
costing-same exit cost step e = grind (arith, nat_tests)

costing-other : (exit cost : ℕ) (step : Step) → (step.exit ≡ exit → ⊥) → costing exit cost step ≡ step
costing-other exit cost step e = grind (arith, nat_tests)

pub loop-step-preserved : goal.loop-step-preserved
loop-step-preserved c =
    let steps = c.loop-step.steps in
    let i = c.loop-step.step-index in
    let step : Step = get_or steps i (record { exit = 0; to = 0; cost = 0 }) in
    let costs = costing c.args.exit c.args.cost in
    let within : i < length steps = omega arith in
    let more = map_over_more costs c.args.steps.now steps i step (omega arith) c.loop-step.invariant
    (get_or_default steps i (record { exit = 0; to = 0; cost = 0 }) step within) in
    elim c.if-step-exit.branch [
      | then-step-exit w ↦ w.steps-is
          ∙ ap (set steps i) (sym (costing-same c.args.exit c.args.cost step w.if-step-exit.true)) ∙ more
      | else-step-exit w ↦ w.steps-is
          ∙ ap (set steps i) (sym (costing-other c.args.exit c.args.cost step w.if-step-exit.false)) ∙ more
    ]

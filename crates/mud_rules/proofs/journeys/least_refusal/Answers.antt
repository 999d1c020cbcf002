use Rattle.std.proofs.Common.{◌∙◌, sym, ap, ◌+◌, drop}
use Rattle.mud_world.specs.Refusals.{lesser}
use Rattle.mud_rules.specs.Journeys.{least_refusal}
use Rattle.mud_rules.proofs.Parts.{least-err, least-ok}
use Rattle.mud_rules.proofs.journeys.least_refusal.Goals as goal
use Rattle.mud_rules.proofs.journeys.least_refusal.Goals.{in-Ok, in-Err}

pub loop-one-preserved : goal.loop-one-preserved
loop-one-preserved c =
    let found = c.args.found.now in
    let at = c.loop-one.one-index in
    elim c.match-one.branch [
      | in-Ok w ↦
          ap (λ least. lesser least (least_refusal (drop (at + 1) found))) w.least-is
          ∙ ap (lesser c.loop-one.least) (sym (least-ok found at _ _ c.loop-one-test.true w.in-Ok.is))
          ∙ c.loop-one.invariant
      | in-Err w ↦
          ap (λ least. lesser least (least_refusal (drop (at + 1) found))) (w.least-is ∙ w.lesser-least.ensures)
          ∙ sym (least-err found at _ _ c.loop-one.least c.loop-one-test.true w.in-Err.is)
          ∙ c.loop-one.invariant
    ]

use Rattle.std.proofs.Common.{Option, ap, sym, ◌∙◌, subst}
use Rattle.mud_roads.specs.Passable.{roads_of}
use Rattle.mud_search.specs.Least.{label_in}
use Rattle.mud_guide.specs.declared.arrivals.Arrival.{Arrival}
use Rattle.mud_guide.specs.inner.Arrivals.{IsBy, ends}
use Rattle.mud_guide.proofs.Lowest.{no-exit, no-label, no-end, no-step, one-step}
use Rattle.mud_guide.proofs.arrivals.arrival_by.Goals as goal

pub returns-in_err-passage : goal.returns-in_err-passage
returns-in_err-passage c =
    let w = c.args.world.now in
    let p = c.args.traveller.now.player in
    let labels = label_in c.args.labels.now c.args.member in
    let P : Option Arrival → Type 0 = λ o. IsBy (roads_of w p) labels c.args.exit o in
    subst P (sym c.from_residual.ensures)
    (no-exit w c.next_number-known.ensures.sound p labels c.args.exit (sym c.passage.ensures ∙ c.in_err-passage.was))

pub returns-in_err-label : goal.returns-in_err-label
returns-in_err-label c =
    let w = c.args.world.now in
    let p = c.args.traveller.now.player in
    let labels = label_in c.args.labels.now c.args.member in
    let P : Option Arrival → Type 0 = λ o. IsBy (roads_of w p) labels c.args.exit o in
    subst P (sym c.from_residual-in_err-label.ensures)
    (no-label w c.next_number-known.ensures.sound p labels c.args.exit c.in_ok-passage.passage
    (sym c.passage.ensures ∙ c.in_ok-passage.was) (sym c.get.ensures ∙ c.in_err-label.was))

pub returns-then-not-ends : goal.returns-then-not-ends
returns-then-not-ends c =
    let w = c.args.world.now in
    let labels = label_in c.args.labels.now c.args.member in
    let a = c.in_ok-passage.passage in
    let l = c.in_ok-label.label in
    no-end w c.next_number-known.ensures.sound c.args.traveller.now.player labels c.args.exit a l
    (sym c.passage.ensures ∙ c.in_ok-passage.was) (sym c.get.ensures ∙ c.in_ok-label.was)
    (sym (c.ends.ensures ∙ ap (ends l a.cost) c.get-2.ensures) ∙ c.if-not-ends.true)

pub returns-in_err-step : goal.returns-in_err-step
returns-in_err-step c =
    let w = c.args.world.now in
    let p = c.args.traveller.now.player in
    let labels = label_in c.args.labels.now c.args.member in
    let P : Option Arrival → Type 0 = λ o. IsBy (roads_of w p) labels c.args.exit o in
    subst P (sym c.from_residual-in_err-step.ensures)
    (no-step w c.next_number-known.ensures.sound p labels c.args.exit (sym c.step_by.ensures ∙ c.in_err-step.was))

pub returns : goal.returns
returns c =
    let w = c.args.world.now in
    let labels = label_in c.args.labels.now c.args.member in
    let a = c.in_ok-passage.passage in
    let l = c.in_ok-label.label in
    one-step w c.next_number-known.ensures.sound c.args.traveller.now.player labels c.args.exit a l c.in_ok-step.step
    (sym c.passage.ensures ∙ c.in_ok-passage.was) (sym c.get.ensures ∙ c.in_ok-label.was)
    (sym (c.ends.ensures ∙ ap (ends l a.cost) c.get-2.ensures) ∙ c.if-not-ends.false)
    (sym c.step_by.ensures ∙ c.in_ok-step.was)

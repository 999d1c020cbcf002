use Rattle.std.proofs.Common.{List, [], ◌∷◌, ◌++◌, Option, length, reverse, ap, sym, subst, ◌∙◌, ◌≡◌}
use Rattle.std.proofs.lemmas.List.{with_items_is, append-nil, append_assoc, reverse-reverse}
use Rattle.mud_roads.specs.declared.label.Step.{Step}
use Rattle.mud_roads.specs.Walks.{RouteBack}
use Rattle.mud_roads.specs.Passable.{roads_of}
use Rattle.mud_search.specs.Least.{label_in}
use Rattle.mud_guide.specs.declared.arrivals.Arrival.{Arrival}
use Rattle.mud_guide.specs.inner.Arrivals.{IsLast}
use Rattle.mud_guide.proofs.Backs.{back-step, back-none, back-less, reached-at}
use Rattle.mud_guide.proofs.routing.walk_to.Goals as goal

pub loop-arrival-smaller : goal.loop-arrival-smaller
loop-arrival-smaller c =
    let t = c.args.traveller.now in
    let roads = roads_of c.args.world.now t.player in
    let labels = label_in c.args.labels.now c.args.member in
    let P : Option Arrival → Type 0 = λ o. IsLast roads labels c.loop-arrival.at o in
    back-less roads t.place labels c.requires.least c.loop-arrival.at c.in-Some.arrival
    (subst P c.in-Some.is c.last_step.ensures)

pub loop-arrival-preserved : goal.loop-arrival-preserved
loop-arrival-preserved c =
    let t = c.args.traveller.now in
    let roads = roads_of c.args.world.now t.player in
    let labels = label_in c.args.labels.now c.args.member in
    let a = c.in-Some.arrival in
    let at = c.loop-arrival.at in
    let L : Option Arrival → Type 0 = λ o. IsLast roads labels at o in
    let last = subst L c.in-Some.is c.last_step.ensures in
    let P : List Step → Type 0 = λ ss. RouteBack 1 roads t.place c.args.to ss in
    record {
      reached = (last.0.before, last.0.comes);
      goes = λ more back.
          subst P (sym
          (ap (λ ss. ss ++ more) c.in_ok-push.ensures.items
          ∙ append_assoc c.loop-arrival.steps.items (a.step ∷ []) more))
          (back-step roads t.place labels c.requires.least c.args.to at a last c.loop-arrival.steps.items more
          c.loop-arrival.invariant.goes back);
    }

pub returns : goal.returns
returns c =
    let t = c.args.traveller.now in
    let roads = roads_of c.args.world.now t.player in
    let labels = label_in c.args.labels.now c.args.member in
    let at = c.loop-arrival.at in
    let L : Option Arrival → Type 0 = λ o. IsLast roads labels at o in
    let same = back-none roads t.place labels c.requires.least at c.loop-arrival.invariant.reached.0
    c.loop-arrival.invariant.reached.1 (subst L c.in_default.is c.last_step.ensures) in
    let steps = c.loop-arrival.steps in
    let kept : length c.reverse.new.self ≡ steps.len = cc (c.reverse.ensures.len, c.as_mut_slice.ensures.len) in
    let items = with_items_is steps c.reverse.new.self kept ∙ c.reverse.ensures.after
    ∙ ap reverse c.as_mut_slice.ensures.value in
    let P : List Step → Type 0 = λ ss. RouteBack 1 roads t.place c.args.to ss in
    subst P (sym (ap reverse items ∙ reverse-reverse steps.items ∙ sym (append-nil steps.items)))
    (c.loop-arrival.invariant.goes [] same)

pub loop-arrival-init : goal.loop-arrival-init
loop-arrival-init c =
    let roads = roads_of c.args.world.now c.args.traveller.now.player in
    record {
      reached = reached-at (label_in c.args.labels.now c.args.member c.args.to) c.requires.reached;
      goes = λ more back. subst
          (λ (ss : List Step). RouteBack 1 roads c.args.traveller.now.place c.args.to (ss ++ more))
          (sym c.new-steps.ensures.items) back;
    }

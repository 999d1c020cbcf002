use Rattle.std.proofs.Common.{sym, ◌∙◌, arith}
use Rattle.mud_roads.specs.Passable.{roads_of}
use Rattle.mud_search.specs.Least.{label_in}
use Rattle.mud_guide.proofs.Lowest.{all-left, left-more, last-is, none-left}
use Rattle.mud_guide.proofs.arrivals.last_step.Goals as goal

pub loop-exit-init : goal.loop-exit-init
loop-exit-init c =
    all-left c.args.world.now c.next_number-known.ensures.sound c.args.traveller.now.player
    (label_in c.args.labels.now c.args.member) c.args.to c.arriving-exit-items.result.now c.arriving-exit-items.ensures

pub returns-then-is_some : goal.returns-then-is_some
returns-then-is_some c =
    last-is c.args.world.now c.next_number-known.ensures.sound c.args.traveller.now.player
    (label_in c.args.labels.now c.args.member) c.args.to c.arriving-exit-items.result.now c.arriving-exit-items.ensures
    c.loop-exit.exit-index c.loop-exit-test.true c.loop-exit.invariant c.arrival_by-arrival.result
    (sym c.is_some.ensures ∙ c.if-is_some.true) c.arrival_by-arrival.ensures

pub loop-exit-preserved : goal.loop-exit-preserved
loop-exit-preserved c =
    left-more (roads_of c.args.world.now c.args.traveller.now.player) (label_in c.args.labels.now c.args.member)
    c.args.to c.loop-exit.exit-index c.arriving-exit-items.result.now c.loop-exit-test.true c.loop-exit.invariant
    c.arrival_by-arrival.result (sym c.is_some.ensures ∙ c.if-is_some.false) c.arrival_by-arrival.ensures

pub returns : goal.returns
returns c =
    none-left (roads_of c.args.world.now c.args.traveller.now.player) (label_in c.args.labels.now c.args.member)
    c.args.to c.loop-exit.exit-index c.arriving-exit-items.result.now (omega (arith, c.loop-exit-test.false))
    c.loop-exit.invariant

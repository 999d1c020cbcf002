use Rattle.std.proofs.Common.{sym, ◌∙◌}
use Rattle.mud_roads.specs.Passable.{roads_of}
use Rattle.mud_search.specs.Least.{label_in}
use Rattle.mud_guide.proofs.Totals.{way-cost}
use Rattle.mud_guide.proofs.routing.way_to.Goals as goal

pub new-requires : goal.new-requires
new-requires c =
    let t = c.args.traveller.now in
    way-cost (roads_of c.args.world.now t.player) t.place c.args.to (label_in c.args.labels.now c.args.member)
    c.requires.least c.in-Some.label (sym c.get.ensures ∙ c.in-Some.is)
    c.in_ok-steps-in-Some.steps.items c.in_ok-steps-in-Some.ensures

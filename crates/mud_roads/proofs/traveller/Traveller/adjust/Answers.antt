use Rattle.std.proofs.Common.{sym, ap, ◌∙◌}
use Rattle.mud_world.specs.declared.change.Deed.{Deed}
use Rattle.mud_roads.specs.inner.Growing.{adjusted}
use Rattle.mud_roads.proofs.traveller.Traveller.adjust.Goals as goal

pub returns-in-Cost : goal.returns-in-Cost
returns-in-Cost c =
    c.take_cost.ensures ∙ ap (λ (d : Deed). adjusted c.args.world.now d c.args.self.now) (sym c.in-Cost.is)

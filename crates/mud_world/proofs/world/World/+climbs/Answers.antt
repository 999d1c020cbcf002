use Rattle.std.proofs.Common.{◌∙◌, ◌-◌, ap, sym}
use Rattle.std.specs.List.{list_any}
use Rattle.mud_world.specs.inner.Askers.{climbs}
use Rattle.mud_world.proofs.Climbing.{climbs-up, any-past, any-at}
use Rattle.mud_world.proofs.world.World.+climbs.Goals as goal

pub returns-then-climbs : goal.returns-then-climbs
returns-then-climbs t c =
    let w = c.args.self.now in
    sym
    (climbs-up w c.args.count c.args.object c.if-count-eq0.false
    ∙ ap (list_any (climbs w (c.args.count - 1))) (sym c.askers_of-asker-items.ensures)
    ∙ any-at (climbs w (c.args.count - 1)) c.loop-asker.asker-index c.askers_of-asker-items.result.now
    c.loop-asker-test.true (sym c.climbs.ensures ∙ c.if-climbs.true))

pub returns : goal.returns
returns t c =
    let w = c.args.self.now in
    sym
    (climbs-up w c.args.count c.args.object c.if-count-eq0.false
    ∙ ap (list_any (climbs w (c.args.count - 1))) (sym c.askers_of-asker-items.ensures)
    ∙ c.loop-asker.invariant
    ∙ any-past
    (climbs w (c.args.count - 1)) c.loop-asker.asker-index c.askers_of-asker-items.result.now
    c.loop-asker-test.false)

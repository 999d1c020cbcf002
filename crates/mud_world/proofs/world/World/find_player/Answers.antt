use Rattle.std.proofs.Common.{◌∙◌, ap}
use Rattle.mud_world.specs.State.{named_player}
use Rattle.mud_world.specs.inner.Maps.{state_of}
use Rattle.mud_world.proofs.Holders.{owner-named}
use Rattle.mud_world.proofs.world.World.find_player.Goals as goal

pub returns : goal.returns
returns c =
    c.get.ensures
    ∙ owner-named
    (state_of c.self.inside) c.self.invariant.sound c.self.inside.owners c.self.invariant.names c.args.name.now
    ∙ ap (λ w. named_player w c.args.name.now) c.self.view_is

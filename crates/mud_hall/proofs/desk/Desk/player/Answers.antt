use Rattle.std.proofs.Common.{ap, subst}
use Rattle.mud_hall.specs.Notices.{world_after}
use Rattle.mud_hall.specs.Desk.{View}
use Rattle.mud_hall.specs.inner.Desks.{IsSeated}
use Rattle.mud_hall.proofs.desk.Desk.player.Goals as goal

pub returns-clause-player : goal.returns-clause-player
returns-clause-player g c = ap (λ (v : View). v.state.player) c.self.view_is

pub returns-clause-seated : goal.returns-clause-seated
returns-clause-seated g c =
    subst (λ (v : View). IsSeated (world_after v.state.seen) v.state.player) c.self.view_is c.self.invariant.seated

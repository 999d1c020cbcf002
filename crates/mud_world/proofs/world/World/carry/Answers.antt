use Rattle.std.proofs.Common.{sym}
use Rattle.mud_world.proofs.Going.{CanGo-move, has_place}
use Rattle.mud_world.proofs.world.World.carry.Goals as goal

pub relocate-requires : goal.relocate-requires
relocate-requires c =
    CanGo-move c.args.self.now c.know_sound.ensures c.args.actor c.args.thing c.args.to c.requires _
    (sym c.in-Some.ensures)

pub returns-in-None-clause-ok : goal.returns-in-None-clause-ok
returns-in-None-clause-ok c =
    absurd (has_place c.args.self.now c.know_sound.ensures c.args.actor c.args.thing c.args.to c.requires
    (sym c.in-None.ensures))

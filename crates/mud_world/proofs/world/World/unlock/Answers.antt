use Rattle.mud_world.proofs.Keying.{CanKey-unlock}
use Rattle.mud_world.proofs.world.World.unlock.Goals as goal

pub drop_key-requires : goal.drop_key-requires
drop_key-requires c = CanKey-unlock c.args.self.now c.know_sound.ensures c.args.actor c.args.object c.requires

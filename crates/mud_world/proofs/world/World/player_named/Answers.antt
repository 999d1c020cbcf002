use Rattle.mud_world.proofs.Players.{named-if}
use Rattle.mud_world.proofs.world.World.player_named.Goals as goal

pub returns-clause-player : goal.returns-clause-player
returns-clause-player c =
    named-if c.args.self.now c.know_sound.ensures c.args.name.now c.find_player.result c.find_player.ensures

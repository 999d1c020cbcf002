use Rattle.mud_world.proofs.Worlds.{worlds_law}
use Rattle.mud_world.proofs.laws.worlds.Goals as goal

pub returns : goal.returns
returns c = worlds_law

use Rattle.mud_world.proofs.Levels.{levels_law}
use Rattle.mud_world.proofs.laws.levels.Goals as goal

pub returns : goal.returns
returns c = levels_law

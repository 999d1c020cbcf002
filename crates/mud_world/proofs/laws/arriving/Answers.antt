use Rattle.mud_world.proofs.Listed.{arriving_law}
use Rattle.mud_world.proofs.laws.arriving.Goals as goal

pub returns : goal.returns
returns c = arriving_law

use Rattle.mud_world.proofs.Listed.{leaving_law}
use Rattle.mud_world.proofs.laws.leaving.Goals as goal

pub returns : goal.returns
returns c = leaving_law

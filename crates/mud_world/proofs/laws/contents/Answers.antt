use Rattle.mud_world.proofs.Listed.{contents_law}
use Rattle.mud_world.proofs.laws.contents.Goals as goal

pub returns : goal.returns
returns c = contents_law

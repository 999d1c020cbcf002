use Rattle.mud_world.proofs.Containing.{within-Within}
use Rattle.mud_world.proofs.laws.containment.Goals as goal

pub returns : goal.returns
returns c = within-Within

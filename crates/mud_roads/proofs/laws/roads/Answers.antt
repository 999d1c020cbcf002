use Rattle.mud_roads.proofs.Roads.{roads_law}
use Rattle.mud_roads.proofs.laws.roads.Goals as goal

pub returns : goal.returns
returns c = roads_law

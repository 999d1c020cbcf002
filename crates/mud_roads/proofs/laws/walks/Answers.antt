use Rattle.mud_roads.proofs.Walking.{walks_law}
use Rattle.mud_roads.proofs.laws.walks.Goals as goal

pub returns : goal.returns
returns c = walks_law

use Rattle.mud_roads.proofs.Alike.{least_is_alike}
use Rattle.mud_roads.proofs.laws.least_cost.Goals as goal

pub returns : goal.returns
returns c = least_is_alike

use Rattle.mud_roads.proofs.Routes.{least_is_one}
use Rattle.mud_roads.proofs.laws.least.Goals as goal

pub returns : goal.returns
returns c = least_is_one

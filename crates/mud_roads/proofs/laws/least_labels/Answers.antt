use Rattle.mud_roads.proofs.Routes.{least_is_valid}
use Rattle.mud_roads.proofs.laws.least_labels.Goals as goal

pub returns : goal.returns
returns c = least_is_valid

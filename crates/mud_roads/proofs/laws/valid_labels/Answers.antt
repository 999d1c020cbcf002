use Rattle.mud_roads.proofs.Bounds.{valid_is_least}
use Rattle.mud_roads.proofs.laws.valid_labels.Goals as goal

pub returns : goal.returns
returns c = valid_is_least

use Rattle.mud_roads.proofs.Alike.{meeting_is_alike}
use Rattle.mud_roads.proofs.laws.meeting_cost.Goals as goal

pub returns : goal.returns
returns c = meeting_is_alike

use Rattle.mud_guide.proofs.Totals.{route_is_least}
use Rattle.mud_guide.proofs.laws.routes.Goals as goal

pub returns : goal.returns
returns c = route_is_least

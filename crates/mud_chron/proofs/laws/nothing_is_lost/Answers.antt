use Rattle.mud_chron.proofs.Fronts.{nothing_is_lost}
use Rattle.mud_chron.proofs.laws.nothing_is_lost.Goals as goal

pub returns : goal.returns
returns c = nothing_is_lost

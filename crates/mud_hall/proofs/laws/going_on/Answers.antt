use Rattle.mud_hall.proofs.Keeping.{history_goes_on}
use Rattle.mud_hall.proofs.laws.going_on.Goals as goal

pub returns : goal.returns
returns c = history_goes_on

use Rattle.mud_chron.proofs.Fronts.{recovers_whole}
use Rattle.mud_chron.proofs.laws.recovers_whole.Goals as goal

pub returns : goal.returns
returns c = recovers_whole

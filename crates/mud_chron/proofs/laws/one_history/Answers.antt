use Rattle.mud_chron.proofs.Telling.{spells_one}
use Rattle.mud_chron.proofs.laws.one_history.Goals as goal

pub returns : goal.returns
returns c = spells_one

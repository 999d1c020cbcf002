use Rattle.mud_chron.proofs.Telling.{has_one_fault}
use Rattle.mud_chron.proofs.laws.one_fault.Goals as goal

pub returns : goal.returns
returns c = has_one_fault

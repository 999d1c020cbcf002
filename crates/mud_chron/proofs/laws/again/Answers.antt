use Rattle.mud_chron.proofs.Telling.{is_written_again}
use Rattle.mud_chron.proofs.laws.again.Goals as goal

pub returns : goal.returns
returns c = is_written_again

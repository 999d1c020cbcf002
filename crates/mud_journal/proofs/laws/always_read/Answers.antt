use Rattle.mud_journal.proofs.Crashes.{always_read}
use Rattle.mud_journal.proofs.laws.always_read.Goals as goal

pub returns : goal.returns
returns c = always_read

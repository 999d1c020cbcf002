use Rattle.mud_journal.proofs.Crashes.{nothing_is_lost}
use Rattle.mud_journal.proofs.laws.nothing_is_lost.Goals as goal

pub returns : goal.returns
returns c = nothing_is_lost

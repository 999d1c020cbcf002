use Rattle.mud_journal.proofs.Crashes.{whatever_follows}
use Rattle.mud_journal.proofs.laws.whatever_follows.Goals as goal

pub returns : goal.returns
returns c = whatever_follows

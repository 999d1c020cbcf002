use Rattle.mud_journal.proofs.Crashes.{on_any_disk}
use Rattle.mud_journal.proofs.laws.on_any_disk.Goals as goal

pub returns : goal.returns
returns c = on_any_disk

use Rattle.mud_theorems.proofs.OneRun.{threads_make_runs}
use Rattle.mud_theorems.proofs.Sample.{}
use Rattle.mud_theorems.proofs.laws.one_run.Goals as goal

pub returns : goal.returns
returns c = threads_make_runs c.going_on.ensures

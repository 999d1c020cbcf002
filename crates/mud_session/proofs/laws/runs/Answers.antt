use Rattle.mud_session.proofs.Running.{script_is_run}
use Rattle.mud_session.proofs.laws.runs.Goals as goal

pub returns : goal.returns
returns c = script_is_run

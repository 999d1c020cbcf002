use Rattle.mud_session.proofs.Calling.{turns_are_calls}
use Rattle.mud_session.proofs.laws.turns.Goals as goal

pub returns : goal.returns
returns c = turns_are_calls

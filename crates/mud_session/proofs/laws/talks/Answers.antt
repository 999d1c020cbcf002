use Rattle.mud_session.proofs.Talking.{talks_go_on}
use Rattle.mud_session.proofs.laws.talks.Goals as goal

pub returns : goal.returns
returns c = talks_go_on

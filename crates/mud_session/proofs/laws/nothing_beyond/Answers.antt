use Rattle.mud_session.proofs.Naming.{nothing_beyond}
use Rattle.mud_session.proofs.laws.nothing_beyond.Goals as goal

pub returns : goal.returns
returns c = nothing_beyond

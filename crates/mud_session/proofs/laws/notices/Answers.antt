use Rattle.mud_session.proofs.Telling.{told_once}
use Rattle.mud_session.proofs.laws.notices.Goals as goal

pub returns : goal.returns
returns c = λ capacity old new turn. told_once capacity old turn.case turn.notices new

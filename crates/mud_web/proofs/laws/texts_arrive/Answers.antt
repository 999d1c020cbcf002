use Rattle.mud_web.proofs.Sending.{texts_arrive}
use Rattle.mud_web.proofs.laws.texts_arrive.Goals as goal

pub returns : goal.returns
returns c = texts_arrive

use Rattle.mud_web.proofs.Sending.{messages}
use Rattle.mud_web.proofs.laws.messages.Goals as goal

pub returns : goal.returns
returns c = messages

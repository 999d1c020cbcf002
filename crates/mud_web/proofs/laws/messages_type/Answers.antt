use Rattle.mud_web.proofs.Arriving.{messages_type}
use Rattle.mud_web.proofs.laws.messages_type.Goals as goal

pub returns : goal.returns
returns c = messages_type

use Rattle.websocket.proofs.AcceptKey.{accept_key_is_graphic}
use Rattle.mud_web.proofs.asking.play.Goals as goal

pub returns-in-Some-clause-graphic : goal.returns-in-Some-clause-graphic
returns-in-Some-clause-graphic c = rw c.in-Some.ensures.2 (accept_key_is_graphic c.in-Some.ensures.0)

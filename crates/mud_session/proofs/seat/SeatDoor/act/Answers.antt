use Rattle.mud_session.proofs.Sharing.{desks_are_shared}
use Rattle.mud_session.proofs.seat.SeatDoor.act.Goals as goal

pub returns-clause-stored : goal.returns-clause-stored
returns-clause-stored g c = λ _. desks_are_shared

-- The types of a session that may cross threads.
use denote.Param.Send.{IsSend, IsSync}
use Rattle.mud_server_session.proofs.habits.Habits.TheSendSync as habits
use Rattle.mud_server_session.proofs.quay.Guest.TheSendSync as guest
use Rattle.mud_server_session.proofs.quay.Quay.TheSendSync as quay
use Rattle.mud_server_session.specs.contracts.habits.Habits as Habits
use Rattle.mud_server_session.specs.contracts.quay.Guest as Guest
use Rattle.mud_server_session.specs.contracts.quay.Quay as Quay

-- what a reader thread knows of its session, and the sessions that rest
pub habits_send : IsSend Habits.the_row
habits_send = habits.the_send

pub guest_send : IsSend Guest.the_row
guest_send = guest.the_send

pub quay_sync : IsSync Quay.the_row
quay_sync = quay.the_sync

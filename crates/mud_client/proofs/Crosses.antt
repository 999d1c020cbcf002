-- A client may cross threads.
use denote.RattleType.{RattleType}
use denote.Param.Send.{IsSend, sendable}
use Rattle.std.proofs.Crossing.{crosses}
use Rattle.mud_hall.specs.declared.name.HallName as HallName
use Rattle.mud_hall.proofs.Crosses.{desk_send}
use Rattle.mud_client.specs.contracts.client.Client as Client
use Rattle.mud_client.specs.contracts.resting.RestingClient as RestingClient

pub client_send : (J : RattleType) (h : HallName.Ghosts J.Denot) → IsSend J → IsSend (Client.the_row J h)
client_send J h s = search (sendable, crosses, desk_send) depth 40 fits 20000

-- a client at rest may cross threads
pub resting_send : IsSend RestingClient.the_row
resting_send = search (sendable, crosses) depth 40 fits 20000

-- The types of a connection that may cross threads.
use denote.RattleType.{RattleType}
use denote.Param.Send.{IsSend, IsSync, sendable}
use Rattle.std.proofs.Crossing.{crosses}
use Rattle.mud_hall.specs.contracts.hall.Hall as Hall
use Rattle.mud_hall.specs.declared.name.HallName as HallName
use Rattle.mud_hall.proofs.Crosses.{hall_sync}
use Rattle.mud_client.proofs.Crosses.{client_send}
use Rattle.mud_server_state.proofs.Crosses.{places_sync}
use Rattle.mud_server_state.proofs.state.ServerState.TheSendSync as state
use Rattle.mud_server_state.specs.contracts.state.ServerState as ServerState
use Rattle.mud_server_state.specs.contracts.state.Places as Places
use Rattle.mud_server_connection.specs.contracts.connection.Connection as Connection

-- a server's state, by its parts
pub state_sync : (J G : RattleType) (h : HallName.Ghosts J.Denot) → IsSend J → IsSync J → IsSync G
    → IsSync (ServerState.the_row (Hall.the_row J h) (Places.the_row J h) G)
state_sync J G h s y g = state.the_sync _ _ _ (hall_sync J h s y) (places_sync J h s) g

pub connection_send : (J : RattleType) (h : HallName.Ghosts J.Denot) → IsSend J → IsSend (Connection.the_row J h)
connection_send J h s = search (sendable, crosses, client_send) depth 40 fits 20000

pub connection_sync : (J : RattleType) (h : HallName.Ghosts J.Denot) → IsSend J → IsSync (Connection.the_row J h)
connection_sync J h s = search (sendable, crosses, client_send) depth 40 fits 20000

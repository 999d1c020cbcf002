use denote.Param.Send.{sendable}
use Rattle.std.proofs.Crossing.{crosses}
use Rattle.mud_server_connection.proofs.Crosses.{state_sync, connection_send, connection_sync}
use Rattle.mud_server_accept.proofs.accepting.fn.serve_sessions.scope.Goals as goal

pub take_and_see_out-requires-send-C : goal.take_and_see_out-requires-send-C
take_and_see_out-requires-send-C g c κs within =
    search (connection_send, c.requires, sendable, crosses) depth 60 fits 20000

pub take_and_see_out-requires-sync-S : goal.take_and_see_out-requires-sync-S
take_and_see_out-requires-sync-S g c κs within =
    search (state_sync, c.requires, sendable, crosses) depth 60 fits 20000

pub take_and_see_out-requires-sync-C : goal.take_and_see_out-requires-sync-C
take_and_see_out-requires-sync-C g c κs within =
    search (connection_sync, c.requires, sendable, crosses) depth 60 fits 20000

use denote.Param.Send.{sendable}
use Rattle.std.proofs.Crossing.{crosses}
use Rattle.mud_server_threads.proofs.browsers.Caller.TheSendSync as caller
use Rattle.mud_server_threads.proofs.Crosses.{server_send}
use Rattle.mud_server_threads.proofs.server.Server.receive.Goals as goal

pub spawn-hearing-requires-send-F : goal.spawn-hearing-requires-send-F
spawn-hearing-requires-send-F g c κs within =
    search (server_send, caller.the_send, c.type_bounds, sendable, crosses) depth 60 fits 20000

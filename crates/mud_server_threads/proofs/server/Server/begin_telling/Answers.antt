use denote.Param.Send.{sendable}
use Rattle.std.proofs.Crossing.{crosses}
use Rattle.mud_server_threads.proofs.notice.Sleeper.TheSendSync as sleeper
use Rattle.mud_server_threads.proofs.Crosses.{server_send}
use Rattle.mud_server_threads.proofs.server.Server.begin_telling.Goals as goal

pub spawn-telling-requires-send-F : goal.spawn-telling-requires-send-F
spawn-telling-requires-send-F g c κs within =
    search (server_send, sleeper.the_send, c.type_bounds, sendable, crosses) depth 60 fits 20000

use denote.Param.Send.{sendable}
use Rattle.std.proofs.Crossing.{crosses}
use Rattle.mud_server_session.proofs.Crosses.{habits_send}
use Rattle.mud_server_threads.proofs.Crosses.{post_send, server_send}
use Rattle.mud_server_threads.proofs.server.Server.begin_reading_on.Goals as goal

pub spawn-reading-requires-send-F : goal.spawn-reading-requires-send-F
spawn-reading-requires-send-F g c κs within =
    search (server_send, post_send, habits_send, c.type_bounds, sendable, crosses) depth 60 fits 20000

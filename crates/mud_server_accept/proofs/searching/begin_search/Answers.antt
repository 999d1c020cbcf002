use denote.Param.Send.{sendable}
use Rattle.std.proofs.Crossing.{crosses}
use Rattle.mud_server_threads.proofs.Crosses.{server_send}
use Rattle.mud_server_volume.proofs.Crosses.{turning_sync}
use Rattle.mud_server_accept.proofs.searching.begin_search.Goals as goal

pub spawn-searching-requires-send-F : goal.spawn-searching-requires-send-F
spawn-searching-requires-send-F g c κs within =
    search (server_send, turning_sync, c.type_bounds, sendable, crosses) depth 60 fits 20000

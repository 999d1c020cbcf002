-- The turn of a volume may be shared by threads.
use denote.Param.Send.{IsSync, sendable}
use Rattle.std.proofs.Crossing.{crosses}
use Rattle.mud_hall.proofs.Crosses.{entry_send, entry_sync}
use Rattle.mud_server_volume.specs.contracts.turning.Turning as Turning

pub turning_sync : IsSync Turning.the_row
turning_sync = search (entry_send, entry_sync, sendable, crosses) depth 40 fits 20000

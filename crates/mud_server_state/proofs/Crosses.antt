-- The types of the shared state that may cross threads.
use denote.RattleType.{RattleType}
use denote.Param.Send.{IsSend, IsSync, sendable}
use Rattle.std.proofs.Crossing.{crosses}
use Rattle.mud_hall.specs.declared.name.HallName as HallName
use Rattle.mud_hall.proofs.Crosses.{desk_send}
use Rattle.mud_server_state.specs.contracts.state.Places as Places
use Rattle.mud_server_state.specs.contracts.place.Place as Place

place_send : (J : RattleType) (h : HallName.Ghosts J.Denot) → IsSend J → IsSend (Place.the_row J h)
place_send J h s = search (sendable, crosses, desk_send) depth 40 fits 20000

pub places_sync : (J : RattleType) (h : HallName.Ghosts J.Denot) → IsSend J → IsSync (Places.the_row J h)
places_sync J h s = search (sendable, crosses, place_send) depth 40 fits 20000

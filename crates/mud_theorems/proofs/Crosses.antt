-- Which types of players may cross threads. Lemmas, since the search of a check does not find so much at once.
use denote.RattleType.{RattleType}
use denote.Param.Send.{IsSend, sendable}
use Rattle.std.proofs.Crossing.{crosses}
use Rattle.mud_hall.specs.declared.name.HallName as HallName
use Rattle.mud_hall.proofs.Crosses.{desk_send}
use Rattle.mud_theorems.specs.contracts.played.Player as Player
use Rattle.mud_theorems.specs.contracts.played.Played as Played

pub player_send : (J : RattleType) (h : HallName.Ghosts J.Denot) → IsSend J → IsSend (Player.the_row J h)
player_send J h s = search (sendable, crosses, desk_send) depth 40 fits 20000

pub played_send : (J : RattleType) (h : HallName.Ghosts J.Denot) → IsSend J → IsSend (Played.the_row J h)
played_send J h s = search (sendable, crosses, desk_send) depth 40 fits 20000

-- A gate may be shared by threads.
use denote.RattleType.{RattleType}
use denote.Param.Send.{IsSend, IsSync, sendable}
use Rattle.std.proofs.Crossing.{crosses}
use Rattle.mud_journal.specs.contracts.gate.Gate as Gate

pub gate_sync : (J : RattleType) → IsSync J → IsSync (Gate.the_row J)
gate_sync J y = search (sendable, crosses) depth 40 fits 20000

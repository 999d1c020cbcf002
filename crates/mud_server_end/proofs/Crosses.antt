-- A group commit may be shared by threads.
use denote.RattleType.{RattleType}
use denote.Param.Send.{IsSend, IsSync, sendable}
use Rattle.std.proofs.Crossing.{crosses}
use Rattle.mud_hall.specs.declared.name.HallName as HallName
use Rattle.mud_hall.specs.contracts.reader.Reader as Reader
use Rattle.mud_journal.specs.declared.disk.Appends as Appends
use Rattle.mud_row.proofs.pass.Pass.TheSendSync as pass
use Rattle.mud_server_end.specs.contracts.group.GroupCommit as GroupCommit
use Rattle.mud_server_end.specs.contracts.group.Led as Led
use Rattle.mud_server_end.specs.contracts.writer.JournalWriter as JournalWriter

reader_send : (J : RattleType) (h : HallName.Ghosts J.Denot) → IsSend J → IsSend (Reader.the_row J h)
reader_send J h s = search (sendable, crosses, pass.the_send) depth 40 fits 20000

writer_send : (J D : RattleType) (h : HallName.Ghosts J.Denot) (a : Appends.Ghosts D.Denot) → IsSend J → IsSend D
    → IsSend (JournalWriter.the_row J D h a)
writer_send J D h a s t = search (sendable, crosses, reader_send) depth 40 fits 20000

led_send : (J D : RattleType) (h : HallName.Ghosts J.Denot) (a : Appends.Ghosts D.Denot) → IsSend J → IsSend D
    → IsSend (Led.the_row J D h a)
led_send J D h a s t = search (sendable, crosses, writer_send) depth 40 fits 20000

pub group_sync : (J D : RattleType) (h : HallName.Ghosts J.Denot) (a : Appends.Ghosts D.Denot) → IsSend J → IsSync J
    → IsSend D → IsSync (GroupCommit.the_row J D h a)
group_sync J D h a s y t = search (sendable, crosses, led_send) depth 40 fits 20000

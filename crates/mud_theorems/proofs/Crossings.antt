-- Which types of connections may cross threads.
use denote.Builtin.{Array, u64}
use denote.Param.{number}
use denote.RattleType.{RattleType}
use denote.Param.Send.{IsSend, IsSync, sendable, struct_sync_at}
use denote.Struct.Declared.{shape}
use Rattle.std.proofs.Crossing.{crosses}
use Rattle.std.specs.contracts.alloc.Global as Global
use Rattle.std.specs.contracts.impls.GlobalAllocator.TheImpl as heap
use Rattle.std.specs.contracts.prelude.ArrayClone.TheImpl as array
use Rattle.std.specs.contracts.prelude.U64Clone.TheImpl as number_of
use Rattle.std.specs.contracts.sync.Mutex as Mutex
use Rattle.atomic_table.proofs.shared.Seat.TheSendSync as seats
use Rattle.atomic_table.proofs.shared.Shared.TheSendSync as tables
use Rattle.atomic_table.proofs.send_lease.SendLease.TheSendSync as leases
use Rattle.crossbeam_utils.specs.contracts.atomic.seq_cell.ArrayU64Words.TheImpl as words
use Rattle.crossbeam_utils.specs.contracts.atomic.seq_cell.Doing as Doing
use Rattle.crossbeam_utils.specs.contracts.atomic.seq_cell.Versions as Versions
use Rattle.crossbeam_utils.specs.contracts.atomic.seq_cell.VersionsTableRuleDoingUnit.TheImpl as versions
use Rattle.crossbeam_utils.specs.contracts.atomic.seq_cell.Wide as Wide
use Rattle.mud_row.proofs.pass.Pass.TheSendSync as read
use Rattle.mud_hall.specs.declared.name.HallName as HallName
use Rattle.mud_hall.proofs.Crosses.{desk_send, hall_sync}
use Rattle.mud_journal.specs.declared.disk.Appends as Appends
use Rattle.mud_client.proofs.Crosses.{client_send}
use Rattle.mud_theorems.specs.declared.peer.Peer as Peer
use Rattle.mud_theorems.specs.declared.durable.Room as Room
use Rattle.mud_theorems.specs.contracts.durable.Claims as Claims
use Rattle.mud_theorems.specs.contracts.durable.ClaimsProtocolArrayU641Knowledge.TheImpl as claims
use Rattle.mud_theorems.specs.contracts.durable.Durable as Durable
use Rattle.mud_theorems.specs.contracts.durable.Knowledge as Knowledge
use Rattle.mud_theorems.specs.contracts.keeper.Keeper as Keeper
use Rattle.mud_theorems.specs.contracts.talk.Shared as Shared
use Rattle.mud_theorems.specs.contracts.talk.Talk as Talk
use Rattle.mud_theorems.specs.contracts.talk.Line as Line

pub durable_send : (J B : RattleType) (b : Room.Ghosts B.Denot) → IsSend J → IsSend B → IsSend (Durable.the_row J B b)
durable_send J B b s t = search (sendable, crosses, seats.the_send) depth 40 fits 20000

pub keeper_send : (J D B : RattleType) (h : HallName.Ghosts J.Denot) (d : Appends.Ghosts D.Denot)
    (b : Room.Ghosts B.Denot) → IsSend J → IsSend D → IsSend B → IsSend (Keeper.the_row J D B h d b)
keeper_send J D B h d b s t u = search (sendable, crosses, read.the_send, seats.the_send) depth 40 fits 20000

-- the cell of one word
abbrev the_cell : RattleType
the_cell =
    Wide.the_row (Array u64 tt 1) (Doing.the_row (Array u64 tt 1) Knowledge.the_row)
    (Versions.the_row Claims.the_row (number 1)) (number 1) Global.the_row
    (versions.ghosts (Array u64 tt 1) Knowledge.the_row Claims.the_row (number 1) (words.ghosts (number 1))
    versions.no_dict (array.ghosts u64 (number 1) number_of.ghosts array.no_dict array.no_dict) versions.no_dict
    claims.ghosts versions.no_dict) heap.ghosts

cell_sync : IsSync the_cell
cell_sync = search (sendable, crosses, tables.the_sync, leases.the_sync) depth 40 fits 20000

mutex_sync : (J D B : RattleType) (h : HallName.Ghosts J.Denot) (d : Appends.Ghosts D.Denot) (b : Room.Ghosts B.Denot)
    → IsSend J → IsSend D → IsSend B → IsSync (Mutex.the_row (Keeper.the_row J D B h d b))
mutex_sync J D B h d b s t u = search (sendable, crosses, keeper_send) depth 40 fits 20000

pub shared_sync : (J D B : RattleType) (h : HallName.Ghosts J.Denot) (d : Appends.Ghosts D.Denot)
    (b : Room.Ghosts B.Denot) → IsSend J → IsSync J → IsSend D → IsSend B → IsSync B
    → IsSync (Shared.the_row J D B h d b)
shared_sync J D B h d b s y t u v = record {
  shared = λ x. struct_sync_at (shape (Shared.the_type J D B h d b)) ((Shared.the_type J D B h d b).to x) (
    (hall_sync J h s y).shared x.hall,
    (cell_sync.shared x.cell, ((mutex_sync J D B h d b s t u).shared x.keeper, tt)),
  );
}

pub talk_send : (J P B : RattleType) (h : HallName.Ghosts J.Denot) (p : Peer.Ghosts P.Denot) (b : Room.Ghosts B.Denot)
    → IsSend J → IsSend P → IsSend B → IsSend (Talk.the_row J P B h p b)
talk_send J P B h p b s t u = search (sendable, crosses, client_send, durable_send) depth 40 fits 20000

pub line_send : (J P B : RattleType) (h : HallName.Ghosts J.Denot) (p : Peer.Ghosts P.Denot) (b : Room.Ghosts B.Denot)
    → IsSend J → IsSend P → IsSend B → IsSend (Line.the_row J P B h p b)
line_send J P B h p b s t u = search (sendable, crosses, desk_send, durable_send) depth 40 fits 20000

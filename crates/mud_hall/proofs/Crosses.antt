-- The types of a hall that may cross threads. These are lemmas because a checker's search does not find all of it at
-- once.
use denote.RattleType.{RattleType}
use denote.Param.Send.{IsSend, IsSync, sendable}
use Rattle.std.proofs.Crossing.{crosses}
use Rattle.once_cell.proofs.race.once_box.OnceBox.TheSendSync as once
use Rattle.mud_key.proofs.node.Node.TheLaws.TheKnot as node
use Rattle.mud_key.specs.contracts.key.Key as Key
use Rattle.mud_world.specs.contracts.record.Record as Record
use Rattle.mud_world.specs.contracts.world.World as World
use Rattle.mud_world.proofs.links.Links.TheSendSync as links
use Rattle.mud_index.proofs.lists.Lists.TheSendSync as lists
use Rattle.mud_index.proofs.owners.Owners.TheSendSync as owners
use Rattle.mud_chron.specs.contracts.entry.Entry as Entry
use Rattle.mud_roads.proofs.traveller.Traveller.TheSendSync as traveller
use Rattle.mud_row.proofs.pass.Pass.TheSendSync as pass
use Rattle.mud_row.specs.contracts.replica.Replica as Replica
use Rattle.mud_row.specs.contracts.row.Row as Row
use Rattle.mud_hall.specs.declared.name.HallName as HallName
use Rattle.mud_hall.specs.contracts.desk.Desk as Desk
use Rattle.mud_hall.specs.contracts.kept.Fresh as Fresh
use Rattle.mud_hall.specs.contracts.kept.Kept as Kept
use Rattle.mud_hall.specs.contracts.hall.Hall as Hall

pub key_send : IsSend Key.the_row
key_send = search (sendable, crosses, node.crosses) depth 40 fits 20000

pub key_sync : IsSync Key.the_row
key_sync = search (sendable, crosses, node.crosses) depth 40 fits 20000

pub record_send : IsSend Record.the_row
record_send = search (sendable, crosses, key_send) depth 40 fits 20000

pub world_send : IsSend World.the_row
world_send =
    search (sendable, crosses, record_send, links.the_send, lists.the_send, owners.the_send) depth 40 fits 20000

pub replica_send : IsSend Replica.the_row
replica_send = search (sendable, crosses, world_send, pass.the_send) depth 40 fits 20000

pub entry_send : IsSend Entry.the_row
entry_send = search (sendable, crosses, key_send) depth 40 fits 20000

pub entry_sync : IsSync Entry.the_row
entry_sync = search (sendable, crosses, key_sync) depth 40 fits 20000

pub row_sync : IsSync Row.the_row
row_sync = search (sendable, crosses, entry_send, entry_sync, once.the_sync) depth 40 fits 20000

pub desk_send : (J : RattleType) (h : HallName.Ghosts J.Denot) → IsSend J → IsSend (Desk.the_row J h)
desk_send J h s = search (sendable, crosses, replica_send, traveller.the_send) depth 40 fits 20000

pub kept_send : (J : RattleType) (h : HallName.Ghosts J.Denot) → IsSend J → IsSend (Kept.the_row J h)
kept_send J h s = search (sendable, crosses, pass.the_send) depth 40 fits 20000

pub fresh_send : (J : RattleType) (h : HallName.Ghosts J.Denot) → IsSend J → IsSend (Fresh.the_row J h)
fresh_send J h s = search (sendable, crosses, replica_send) depth 40 fits 20000

pub hall_sync : (J : RattleType) (h : HallName.Ghosts J.Denot) → IsSend J → IsSync J → IsSync (Hall.the_row J h)
hall_sync J h s y = search (sendable, crosses, kept_send, fresh_send, row_sync) depth 40 fits 20000

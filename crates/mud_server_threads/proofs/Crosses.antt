-- The types of these threads that may cross threads.
use denote.RattleType.{RattleType}
use denote.Param.Send.{IsSend, IsSync, sendable}
use denote.Ref.{NamedLft}
use Rattle.std.proofs.Crossing.{crosses}
use Rattle.std.proofs.thread.Scope.TheSendSync as scope
use Rattle.mud_server_session.proofs.Crosses.{quay_sync}
use Rattle.mud_server_threads.specs.contracts.server.Post as Post
use Rattle.mud_server_threads.specs.contracts.server.Server as Server

pub post_send : (C : RattleType) → IsSend C → IsSync C → IsSend (Post.the_row C)
post_send C s y = search (sendable, crosses) depth 40 fits 20000

-- the values that a thread of a server starts with
pub server_send : (ℓ : NamedLft) (E S C R : RattleType) → IsSync S → IsSend C → IsSync R
    → IsSend (Server.the_row ℓ E S C R)
server_send ℓ E S C R s c r = search (sendable, scope.the_sync, quay_sync, crosses) depth 40 fits 20000

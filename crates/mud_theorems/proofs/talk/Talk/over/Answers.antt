use Rattle.std.proofs.Common.{length}
use Rattle.std.proofs.Math.Logic.{∥∥₁_map, ∥∥₁_elim, ∥∥₁_prop}
use Rattle.mud_theorems.proofs.Connections.{talk_quits}
use Rattle.mud_theorems.proofs.talk.Talk.over.Goals as goal

pub new-requires : goal.new-requires
new-requires g c =
    let self = c.args.self in
    ∥∥₁_elim c.requires ∥∥₁_prop (λ q.
    ∥∥₁_map self.talks
    (talk_quits (length g.J.HallName.cells) g.J.HallName.loaded (g.P.Peer.traffic self.peer) self.told self.client q.0
    q.1))

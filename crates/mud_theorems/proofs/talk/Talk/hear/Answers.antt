use Rattle.std.proofs.Common.{length}
use Rattle.std.proofs.Math.Logic.{∥∥₁_map, ∥∥₁_elim, ∥∥₁_prop}
use Rattle.mud_theorems.proofs.Connections.{talk_ends, talk_hears}
use Rattle.mud_theorems.proofs.talk.Talk.hear.Goals as goal

pub new-requires : goal.new-requires
new-requires g c =
    let self = c.args.self in
    ∥∥₁_elim self.rests ∥∥₁_prop (λ r.
    ∥∥₁_map self.talks
    (talk_ends (length g.J.HallName.cells) g.J.HallName.loaded (g.P.Peer.traffic self.peer)
    (g.P.Peer.traffic c.receive.new.self) self.told self.client c.in-None.ensures.end (r c.requires).0
    (r c.requires).1))

pub feed-requires-after_bounds : goal.feed-requires-after_bounds
feed-requires-after_bounds g c κs within =
    let self = c.args.self in
    ∥∥₁_map self.talks
    (talk_hears (length g.J.HallName.cells) g.J.HallName.loaded (g.P.Peer.traffic self.peer)
    (g.P.Peer.traffic c.receive.new.self) self.told self.client _ c.in-Some.ensures.input)

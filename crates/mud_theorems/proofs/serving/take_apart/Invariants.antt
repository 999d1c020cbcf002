use Rattle.std.proofs.Common.{◌≡◌, length, map}
use Rattle.std.specs.List.{AllZip}
use Rattle.mud_theorems.specs.inner.Talking.{WasServed}
use Rattle.mud_theorems.proofs.serving.take_apart.Given as goal

abbrev pub invariant-loop-line : goal.invariant-loop-line
invariant-loop-line g l =
    (map g.P.Peer.name l.peers.items ≡ map (λ line. g.P.Peer.name line.peer) l.yielded)
    × (l.keeper ≡ l.fn.keeper)
    × ∥ AllZip (λ desk peer. WasServed (length g.J.HallName.cells) g.J.HallName.loaded (g.P.Peer.traffic peer)
    l.fn.keeper.count l.is_any_cut desk.state) l.desks.items l.peers.items ∥₁

use Rattle.std.proofs.Common.{◌≡◌, map}
use Rattle.mud_theorems.proofs.serving.seat_all.Given as goal

abbrev pub invariant-loop-arrival : goal.invariant-loop-arrival
invariant-loop-arrival g l =
    (map (λ t. g.P.Peer.name t.peer) l.talks.items ≡ map (λ a. g.P.Peer.name a.peer) l.yielded)
    × (l.keeper ≡ l.fn.keeper)

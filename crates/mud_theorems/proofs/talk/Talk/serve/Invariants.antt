use Rattle.std.proofs.Common.{◌≡◌}
use Rattle.mud_theorems.proofs.talk.Talk.serve.Given as goal

-- it is still the same peer
abbrev pub invariant-loop : goal.invariant-loop
invariant-loop g l = g.P.Peer.name l.talk.peer ≡ g.P.Peer.name l.fn.self.peer

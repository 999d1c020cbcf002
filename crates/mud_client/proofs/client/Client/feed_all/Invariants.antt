use Rattle.std.proofs.Common.{ℕ, List, length}
use Rattle.mud_client.proofs.Feeding.{FedSoFar}
use Rattle.mud_client.proofs.client.Client.feed_all.Given as goal

abbrev pub invariant-loop-client : goal.invariant-loop-client
invariant-loop-client g l = (done : List ℕ) × (before : List ℕ) × FedSoFar done before l.initial.client l.client

abbrev pub decreases-loop-client : goal.decreases-loop-client
decreases-loop-client g l = length l.client.waiting

use Rattle.std.proofs.Common.{length}
use Rattle.mud_guide.proofs.workers.+fn-party_with-join+arg2+fn-party_with-join+arg3+party_with.Given as goal

abbrev pub decreases-join+arg2 : goal.decreases-join+arg2
decreases-join+arg2 g l = length l.back.now

abbrev pub decreases-join+arg3 : goal.decreases-join+arg3
decreases-join+arg3 g l = length l.front.now

abbrev pub decreases-party_with : goal.decreases-party_with
decreases-party_with g l = length l.party.now

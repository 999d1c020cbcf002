use Rattle.std.proofs.Common.{length}
use Rattle.mud_search.proofs.shared.+fn-labels_apart-join+arg2+fn-labels_apart-join+arg3+labels_apart.Given as goal

abbrev pub decreases-join+arg2 : goal.decreases-join+arg2
decreases-join+arg2 g l = length l.back.now

abbrev pub decreases-join+arg3 : goal.decreases-join+arg3
decreases-join+arg3 g l = length l.front.now

abbrev pub decreases-labels_apart : goal.decreases-labels_apart
decreases-labels_apart g l = length l.travellers.now

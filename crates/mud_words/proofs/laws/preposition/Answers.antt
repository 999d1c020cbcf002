use Rattle.mud_words.proofs.CountingLemmas.{counted_counts, counted_none}
use Rattle.mud_words.proofs.laws.preposition.Goals as goal

pub returns-clause-counts : goal.returns-clause-counts
returns-clause-counts c = counted_counts

pub returns-clause-none : goal.returns-clause-none
returns-clause-none c = counted_none

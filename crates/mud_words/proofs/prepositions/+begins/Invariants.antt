use Rattle.std.proofs.Common.{length}
use Rattle.mud_words.proofs.prepositions.+begins.Given as goal

abbrev pub decreases-begins : goal.decreases-begins
decreases-begins l = length l.words.now

use Rattle.std.proofs.Common.{[], false}
use Rattle.mud_words.proofs.ReadingLemmas.{Reading}
use Rattle.mud_words.proofs.cut.first_word.Given as goal

abbrev pub invariant-loop-at : goal.invariant-loop-at
invariant-loop-at l = Reading l.text [] 0 l.at false false

use Rattle.std.specs.Cow.{cow_str_bytes}
use Rattle.mud_words.proofs.GapLemmas.{Cutting}
use Rattle.mud_words.proofs.cut.push_words.Given as goal

abbrev pub invariant-loop-at : goal.invariant-loop-at
invariant-loop-at l = Cutting cow_str_bytes l.initial.words.items l.words.items l.text l.start l.at l.joined

use Rattle.std.proofs.Common.{string_bytes}
use Rattle.mud_words.proofs.ReadingLemmas.{Reading}
use Rattle.mud_words.proofs.cut.marked_word.Given as goal

abbrev pub invariant-loop-at : goal.invariant-loop-at
invariant-loop-at l = Reading l.text (string_bytes l.word) l.start l.at l.quotes.quoted l.quotes.escaped

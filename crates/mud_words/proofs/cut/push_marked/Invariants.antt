use Rattle.std.proofs.Common.{◌≡◌, ◌++◌, map, length, IsUtf8}
use Rattle.std.specs.Cow.{cow_str_bytes}
use Rattle.mud_words.specs.Words.{plain_words}
use Rattle.mud_words.proofs.ReadingLemmas.{Trimmed}
use Rattle.mud_words.proofs.cut.push_marked.Given as goal

-- the words so far, and the words of the remaining text, which does not begin with a space
abbrev pub invariant-loop-text : goal.invariant-loop-text
invariant-loop-text l = record {
  words : map cow_str_bytes l.words.items ++ plain_words l.text
      ≡ map cow_str_bytes l.initial.words.items ++ plain_words l.fn.text;
  trimmed : Trimmed l.text;
  utf8 : IsUtf8 l.text;
}

abbrev pub decreases-loop-text : goal.decreases-loop-text
decreases-loop-text l = length l.text

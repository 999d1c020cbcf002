use Rattle.std.proofs.Common.{◌<◌, length, ◌∙◌, arith}
use Rattle.std.specs.Cow.{cow_str_bytes}
use Rattle.std.proofs.lemmas.Bool.Decides.{nat_tests}
use Rattle.mud_words.proofs.ReadingLemmas.{front_taken, front_trimmed, word_taken, less_left}
use Rattle.mud_words.proofs.cut.push_marked.Goals as goal

pub loop-text-init : goal.loop-text-init
loop-text-init c = record {
  words = front_taken _ c.args.text.now _ c.without_front-text.ensures;
  trimmed = front_trimmed c.args.text.now _ c.without_front-text.ensures;
  utf8 = c.without_front-text.utf8;
}

pub loop-text-smaller : goal.loop-text-smaller
loop-text-smaller c =
    let some : 0 < length c.loop-text.text.now =
    grind (arith, nat_tests, c.is_empty.ensures, c.loop-text-test.true, c.loop-text-test.ensures) in
    less_left c.loop-text.text.now c.in_ok-word.rest.now c.without_front-text-in-loop-text.result.now some
    c.in_ok-word.ensures.rest c.without_front-text-in-loop-text.ensures

pub loop-text-preserved : goal.loop-text-preserved
loop-text-preserved c =
    let some : 0 < length c.loop-text.text.now =
    grind (arith, nat_tests, c.is_empty.ensures, c.loop-text-test.true, c.loop-text-test.ensures) in
    record {
      words =
          word_taken cow_str_bytes c.loop-text.words.items c.push.new.self.items c.in_ok-word.word c.loop-text.text.now
          c.in_ok-word.rest.now c.without_front-text-in-loop-text.result.now c.loop-text.invariant.trimmed some
          c.in_ok-word.ensures.words c.in_ok-push.ensures.items c.without_front-text-in-loop-text.ensures
          ∙ c.loop-text.invariant.words;
      trimmed = front_trimmed c.in_ok-word.rest.now _ c.without_front-text-in-loop-text.ensures;
      utf8 = c.without_front-text-in-loop-text.utf8;
    }

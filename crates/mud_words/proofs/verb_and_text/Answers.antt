use Rattle.std.specs.Cow.{cow_str_bytes}
use Rattle.std.proofs.lemmas.Result.{IfOk-weaker}
use Rattle.mud_words.proofs.ReadingLemmas.{line_begun}
use Rattle.mud_words.proofs.verb_and_text.Goals as goal

pub returns-clause-words : goal.returns-clause-words
returns-clause-words c =
    IfOk-weaker c.first_word.result _ _
    (λ v h.
    line_begun c.args.line.now (cow_str_bytes v.0) v.1.now c.requires.begun c.requires.some c.in_default.ensures.none h)
    c.first_word.ensures.words

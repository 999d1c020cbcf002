use Rattle.std.proofs.Common.{refl, sym, ◌∙◌, arith}
use Rattle.std.specs.Cow.{cow_str_bytes}
use Rattle.mud_words.proofs.PrepositionLemmas.{begins_word}
use Rattle.mud_words.proofs.prepositions.begins_with.Goals as goal

pub returns-then-eq_ignore_ascii_case-clause-value : goal.returns-then-eq_ignore_ascii_case-clause-value
returns-then-eq_ignore_ascii_case-clause-value c =
    c.begins.ensures.value
    ∙ sym (begins_word cow_str_bytes (λ t. t.now) c.args.word.now c.args.others.now c.args.phrase.now _ (omega arith)
    (c.if-eq_ignore_ascii_case.ensures.test.0 refl))

use Rattle.std.proofs.Common.{ap, sym, refl, ◌∙◌, arith}
use Rattle.std.specs.Cow.{cow_str_bytes}
use Rattle.std.specs.Str.{str_to_ascii_lowercase as lower}
use Rattle.mud_words.proofs.PrepositionLemmas.{begins_more}
use Rattle.mud_words.proofs.prepositions.+begins.Goals as goal

pub returns-then-eq_ignore_ascii_case-clause-value : goal.returns-then-eq_ignore_ascii_case-clause-value
returns-then-eq_ignore_ascii_case-clause-value t c =
    let same =
    sym (ap (λ w. lower (cow_str_bytes w)) c.word-item.is) ∙ sym (ap lower c.as_str.ensures.value)
    ∙ c.if-eq_ignore_ascii_case.ensures.test.0 refl in
    c.begins.ensures.value
    ∙ sym (begins_more cow_str_bytes (λ t. t.now) c.args.words.now c.args.phrase.now c.word-item.result _
    (omega arith) (omega arith) same)

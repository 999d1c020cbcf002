use Rattle.std.proofs.Common.{map, ap, ◌∙◌, arith}
use Rattle.mud_rules.specs.inner.Verbs.{row_of}
use Rattle.mud_rules.specs.Table.{verb_named}
use Rattle.mud_rules.proofs.Lettered.{empty_word, first_letter}
use Rattle.mud_rules.proofs.verb.Verb.of_word.Goals as goal

pub returns-in_default : goal.returns-in_default
returns-in_default c =
    empty_word c.as_bytes.result.now (omega arith) ∙ ap verb_named c.as_bytes.ensures.value

pub returns : goal.returns
returns c =
    c.verb_in.ensures
    ∙ first_letter c.args.text.now c.as_bytes.result.now c.to_ascii_lowercase.result
    (map row_of c.rows_with.result.now) c.as_bytes.ensures.value (omega arith) c.to_ascii_lowercase.ensures.value
    c.rows_with.ensures

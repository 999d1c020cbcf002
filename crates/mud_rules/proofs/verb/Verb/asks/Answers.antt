use Rattle.std.proofs.Common.{false, map, ap, ◌∙◌, arith}
use Rattle.std.specs.Option.{option_map_or}
use Rattle.mud_rules.specs.Table.{verb_named, asks}
use Rattle.mud_rules.proofs.Lettered.{empty_word, first_question}
use Rattle.mud_rules.proofs.verb.Verb.asks.Goals as goal

pub returns-in_default : goal.returns-in_default
returns-in_default c =
    ap (λ v. option_map_or asks v false)
    (empty_word c.as_bytes.result.now (omega arith) ∙ ap verb_named c.as_bytes.ensures.value)

pub returns : goal.returns
returns c =
    c.is_any.ensures
    ∙ first_question c.args.text.now c.as_bytes.result.now c.to_ascii_lowercase.result
    (map (λ t. t.now) c.questions_with.result.now) c.as_bytes.ensures.value (omega arith)
    c.to_ascii_lowercase.ensures.value c.questions_with.ensures

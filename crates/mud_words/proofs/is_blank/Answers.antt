use Rattle.std.proofs.Common.{◌==◌, length, ap, ◌∙◌}
use Rattle.mud_words.proofs.BlankLemmas.{is_blank-empty, words-empty}
use Rattle.mud_words.proofs.is_blank.Goals as goal

pub returns-clause-value : goal.returns-clause-value
returns-clause-value c =
    c.is_empty.ensures ∙ ap (λ text. length text == 0) c.without_front.ensures ∙ is_blank-empty c.args.line.now

pub returns-clause-no_words : goal.returns-clause-no_words
returns-clause-no_words c = rw (c.is_empty.ensures, c.without_front.ensures) (words-empty c.args.line.now)

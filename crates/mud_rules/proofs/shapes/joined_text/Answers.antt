use Rattle.std.proofs.Common.{◌∙◌}
use Rattle.std.specs.Cow.{cow_str_bytes}
use Rattle.std.proofs.lemmas.Result.{IfOk-weaker}
use Rattle.mud_words.proofs.JoinLemmas.{joined_by}
use Rattle.mud_rules.proofs.shapes.joined_text.Goals as goal

pub returns : goal.returns
returns c = IfOk-weaker c.join.result _ _ (λ text e. e ∙ joined_by cow_str_bytes c.args.words.now) c.join.ensures.ok

use Rattle.mud_rules.proofs.Questions.{are_questions}
use Rattle.mud_rules.proofs.laws.questions.Goals as goal

pub returns : goal.returns
returns c = are_questions

use Rattle.mud_guide.proofs.Single.{meet_answer_is_one}
use Rattle.mud_guide.proofs.laws.one_meet_answer.Goals as goal

pub returns : goal.returns
returns c = meet_answer_is_one

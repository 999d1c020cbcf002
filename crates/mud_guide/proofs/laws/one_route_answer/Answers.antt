use Rattle.mud_guide.proofs.Single.{route_answer_is_one}
use Rattle.mud_guide.proofs.laws.one_route_answer.Goals as goal

pub returns : goal.returns
returns c = route_answer_is_one

use Rattle.mud_roads.proofs.Single.{meeting_is_one}
use Rattle.mud_roads.proofs.laws.one_meeting.Goals as goal

pub returns : goal.returns
returns c = meeting_is_one

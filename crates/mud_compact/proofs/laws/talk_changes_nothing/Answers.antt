use Rattle.mud_compact.proofs.Talking.{talk_changes_nothing}
use Rattle.mud_compact.proofs.laws.talk_changes_nothing.Goals as goal

pub returns : goal.returns
returns c = talk_changes_nothing

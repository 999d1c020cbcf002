use Rattle.mud_world.proofs.Reaching.{in_reach-InReach}
use Rattle.mud_world.proofs.laws.reach.Goals as goal

pub returns : goal.returns
returns c = in_reach-InReach

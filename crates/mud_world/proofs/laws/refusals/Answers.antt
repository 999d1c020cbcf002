use Rattle.mud_world.proofs.Least.{refusals_law}
use Rattle.mud_world.proofs.laws.refusals.Goals as goal

pub returns : goal.returns
returns c = refusals_law

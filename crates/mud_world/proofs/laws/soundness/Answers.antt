use Rattle.mud_world.proofs.Sounding.{soundness_law}
use Rattle.mud_world.proofs.laws.soundness.Goals as goal

pub returns : goal.returns
returns c = soundness_law

use Rattle.mud_nvt.proofs.Sound.{units_sound}
use Rattle.mud_nvt.proofs.laws.soundness.Goals as goal

pub returns : goal.returns
returns c = units_sound

use Rattle.mud_theorems.proofs.Small.{sessions_are_small}
use Rattle.mud_theorems.proofs.laws.sizes.Goals as goal

pub returns : goal.returns
returns c = sessions_are_small

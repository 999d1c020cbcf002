use Rattle.mud_key.proofs.Found.{name_law}
use Rattle.mud_key.proofs.laws.name.Goals as goal

pub returns : goal.returns
returns c = name_law

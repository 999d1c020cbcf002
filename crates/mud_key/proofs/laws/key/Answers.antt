use Rattle.mud_key.proofs.Found.{key_law}
use Rattle.mud_key.proofs.laws.key.Goals as goal

pub returns : goal.returns
returns c = key_law

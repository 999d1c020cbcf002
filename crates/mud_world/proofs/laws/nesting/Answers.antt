use Rattle.mud_world.proofs.Nested.{nesting_law}
use Rattle.mud_world.proofs.laws.nesting.Goals as goal

pub returns : goal.returns
returns c = nesting_law

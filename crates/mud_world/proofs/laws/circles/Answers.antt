use Rattle.mud_world.proofs.Nested.{circles_law}
use Rattle.mud_world.proofs.laws.circles.Goals as goal

pub returns : goal.returns
returns c = circles_law

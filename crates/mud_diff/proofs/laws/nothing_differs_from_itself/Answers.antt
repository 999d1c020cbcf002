use Rattle.mud_diff.proofs.Same.{nothing_differs_from_itself}
use Rattle.mud_diff.proofs.laws.nothing_differs_from_itself.Goals as goal

pub returns : goal.returns
returns c = nothing_differs_from_itself

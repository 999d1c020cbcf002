use Rattle.mud_diff.proofs.Same.{same_without_difference}
use Rattle.mud_diff.proofs.laws.same_without_difference.Goals as goal

pub returns : goal.returns
returns c = same_without_difference

use Rattle.mud_theorems.proofs.Owning.{only_owners_change}
use Rattle.mud_theorems.proofs.laws.owners.Goals as goal

pub returns : goal.returns
returns c = only_owners_change (λ w e legal. (c.refusals.ensures w e).1.0 legal)

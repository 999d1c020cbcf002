use Rattle.mud_checker.proofs.Returns.{drops-nothing}
use Rattle.mud_checker.proofs.laws.drops_nothing.Goals as goal

pub returns : goal.returns
returns c = drops-nothing

use Rattle.mud_shelf.proofs.Spelled.{names_differ}
use Rattle.mud_shelf.proofs.laws.names_differ.Goals as goal

pub returns : goal.returns
returns c = names_differ

use Rattle.mud_rules.proofs.Decided.{are_made}
use Rattle.mud_rules.proofs.laws.decisions.Goals as goal

pub returns : goal.returns
returns c = are_made

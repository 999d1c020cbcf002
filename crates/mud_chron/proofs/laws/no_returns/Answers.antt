use Rattle.mud_chron.proofs.Returns.{has_no_returns}
use Rattle.mud_chron.proofs.laws.no_returns.Goals as goal

pub returns : goal.returns
returns c = has_no_returns

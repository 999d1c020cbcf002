use Rattle.mud_meter.proofs.Paid.{owes_at_most}
use Rattle.mud_meter.proofs.laws.debts.Goals as goal

pub returns : goal.returns
returns c = owes_at_most

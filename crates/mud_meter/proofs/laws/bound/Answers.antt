use Rattle.mud_meter.proofs.Through.{through_at_most}
use Rattle.mud_meter.proofs.laws.bound.Goals as goal

pub returns : goal.returns
returns c = through_at_most

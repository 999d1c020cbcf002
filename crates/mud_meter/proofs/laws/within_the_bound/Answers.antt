use Rattle.mud_meter.proofs.Asked.{all_asked}
use Rattle.mud_meter.proofs.laws.within_the_bound.Goals as goal

pub returns : goal.returns
returns c = all_asked

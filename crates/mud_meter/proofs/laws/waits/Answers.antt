use Rattle.mud_meter.specs.Bucket.{refilled}
use Rattle.mud_meter.proofs.Waits.{waits}
use Rattle.mud_meter.proofs.laws.waits.Goals as goal

pub returns : goal.returns
returns c = λ b now tokens wait later told. waits (refilled b now) tokens wait later told

use Rattle.mud_cert.proofs.First as first
use Rattle.mud_cert.proofs.laws.valid_or_doubted.Goals as goal

pub returns : goal.returns
returns c = first.valid_or_doubted

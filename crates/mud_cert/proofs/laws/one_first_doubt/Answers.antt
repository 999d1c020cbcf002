use Rattle.mud_cert.proofs.First as first
use Rattle.mud_cert.proofs.laws.one_first_doubt.Goals as goal

pub returns : goal.returns
returns c = first.one-first

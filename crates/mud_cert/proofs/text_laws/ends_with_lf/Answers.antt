use Rattle.mud_cert.proofs.Progress.{ends-with-lf}
use Rattle.mud_cert.proofs.text_laws.ends_with_lf.Goals as goal

pub returns : goal.returns
returns c = ends-with-lf

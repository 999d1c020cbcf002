use Rattle.mud_cert.proofs.Progress.{one-bad-line}
use Rattle.mud_cert.proofs.text_laws.one_bad_line.Goals as goal

pub returns : goal.returns
returns c = one-bad-line

use Rattle.mud_cert.proofs.Progress.{one-certificate}
use Rattle.mud_cert.proofs.text_laws.one_certificate.Goals as goal

pub returns : goal.returns
returns c = one-certificate

use Rattle.mud_cert.proofs.Splitting.{has-no-return}
use Rattle.mud_cert.proofs.text_laws.no_return.Goals as goal

pub returns : goal.returns
returns c = has-no-return

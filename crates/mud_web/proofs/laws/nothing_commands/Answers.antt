use Rattle.mud_web.proofs.Quiet.{typed_low}
use Rattle.mud_web.proofs.laws.nothing_commands.Goals as goal

pub returns : goal.returns
returns c = typed_low

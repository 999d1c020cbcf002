use Rattle.mud_web.proofs.Quiet.{typed_lines}
use Rattle.mud_web.proofs.laws.only_lines_are_typed.Goals as goal

pub returns : goal.returns
returns c = typed_lines

use Rattle.mud_web.proofs.FirstLines.{ends_no_line}
use Rattle.mud_web.proofs.laws.undecided_ends_no_line.Goals as goal

pub returns : goal.returns
returns c = ends_no_line

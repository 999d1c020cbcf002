use Rattle.std.proofs.Common.{length}
use Rattle.mud_explain.proofs.hall.play_all.Given as goal

abbrev pub decreases-loop-at : goal.decreases-loop-at
decreases-loop-at g l = length l.rest

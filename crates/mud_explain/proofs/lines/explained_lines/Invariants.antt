use Rattle.std.proofs.Common.{string_bytes, length}
use Rattle.mud_explain.specs.Explanation.{Says}
use Rattle.mud_explain.proofs.Answering.{GoesOn}
use Rattle.mud_explain.proofs.lines.explained_lines.Given as goal

abbrev pub invariant-loop-at : goal.invariant-loop-at
invariant-loop-at l = GoesOn (Says l.reading) l.input l.rest (string_bytes l.out)

abbrev pub decreases-loop-at : goal.decreases-loop-at
decreases-loop-at l = length l.rest

use Rattle.std.proofs.Common.{length}
use Rattle.mud_check.proofs.Parting.{IsPassed}
use Rattle.mud_check.proofs.input.split.Given as goal

-- the lines that were passed begin otherwise
abbrev pub invariant-loop-at : goal.invariant-loop-at
invariant-loop-at l = IsPassed l.fn.bytes l.rest

abbrev pub decreases-loop-at : goal.decreases-loop-at
decreases-loop-at l = length l.rest

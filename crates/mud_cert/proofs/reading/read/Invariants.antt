use Rattle.std.proofs.Common.{length}
use Rattle.mud_cert.proofs.Progress.{Reads}
use Rattle.mud_cert.proofs.reading.read.Given as goal

abbrev pub invariant-loop-line : goal.invariant-loop-line
invariant-loop-line l = Reads l.bytes l.rest l.number l.stage

abbrev pub decreases-loop-line : goal.decreases-loop-line
decreases-loop-line l = length l.rest

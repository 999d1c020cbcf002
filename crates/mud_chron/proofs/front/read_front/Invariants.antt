use Rattle.std.proofs.Common.{length}
use Rattle.mud_chron.specs.Faults.{Begins}
use Rattle.mud_chron.proofs.front.read_front.Given as goal

-- the entries so far begin the bytes
abbrev pub invariant-loop-line : goal.invariant-loop-line
invariant-loop-line l = Begins l.format l.entries.items l.bytes l.rest

abbrev pub decreases-loop-line : goal.decreases-loop-line
decreases-loop-line l = length l.rest

use Rattle.std.proofs.Common.{length}
use Rattle.mud_cert.specs.inner.Reader.{exit_at, pieces_at}
use Rattle.mud_cert.proofs.Pieces.{IsUnder}
use Rattle.mud_cert.proofs.lines.exits_of.Given as goal

abbrev pub invariant-loop-rest : goal.invariant-loop-rest
invariant-loop-rest l = IsUnder exit_at l.exits.items l.rest (pieces_at exit_at (length l.bytes) l.bytes)

abbrev pub decreases-loop-rest : goal.decreases-loop-rest
decreases-loop-rest l = length l.rest

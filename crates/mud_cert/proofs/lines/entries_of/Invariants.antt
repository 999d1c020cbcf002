use Rattle.std.proofs.Common.{length}
use Rattle.mud_cert.specs.inner.Reader.{entry_at, pieces_at}
use Rattle.mud_cert.proofs.Pieces.{IsUnder}
use Rattle.mud_cert.proofs.lines.entries_of.Given as goal

abbrev pub invariant-loop-rest : goal.invariant-loop-rest
invariant-loop-rest l =
    IsUnder (entry_at l.form) l.entries.items l.rest (pieces_at (entry_at l.form) (length l.bytes) l.bytes)

abbrev pub decreases-loop-rest : goal.decreases-loop-rest
decreases-loop-rest l = length l.rest

use Rattle.std.proofs.Common.{ℕ, ◌<◌}
use Rattle.mud_journal.proofs.Finding.{IsBlankAt}
use Rattle.mud_journal.proofs.recovery.is_blank.Given as goal

abbrev pub invariant-loop-i : goal.invariant-loop-i
invariant-loop-i l = (k : ℕ) → k < l.i → IsBlankAt l.bytes k

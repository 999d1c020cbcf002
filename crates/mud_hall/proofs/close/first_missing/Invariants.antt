use Rattle.std.proofs.Common.{◌<◌, ◌+◌, ℕ}
use Rattle.mud_hall.specs.Settlement.{HasNumber}
use Rattle.mud_hall.proofs.close.first_missing.Given as goal

abbrev pub invariant-loop-n : goal.invariant-loop-n
invariant-loop-n g l = (k : ℕ) → k < l.n → HasNumber l.desks (k + 1)

use Rattle.mud_diff.specs.inner.Found.{AreFound}
use Rattle.mud_diff.proofs.comparing.differences.Given as goal

-- the differences of the numbers so far are found
abbrev pub invariant-loop-number : goal.invariant-loop-number
invariant-loop-number l = AreFound l.old l.new l.number 0 l.found.items

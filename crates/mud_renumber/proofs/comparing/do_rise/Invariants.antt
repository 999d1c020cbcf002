use Rattle.mud_renumber.specs.Numbers.{number_at}
use Rattle.mud_renumber.specs.inner.Checked.{IsRisen}
use Rattle.mud_renumber.proofs.comparing.do_rise.Given as goal

-- the new numbers so far rise, and are below the least one that may follow
abbrev pub invariant-loop-number : goal.invariant-loop-number
invariant-loop-number l = IsRisen (number_at l.numbers) l.world l.number l.least

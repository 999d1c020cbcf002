use Rattle.mud_search.specs.Least.{label_in}
use Rattle.mud_guide.specs.inner.Gatherings.{IsGreatest}
use Rattle.mud_guide.proofs.meeting.greatest.Given as goal

abbrev pub invariant-loop-member : goal.invariant-loop-member
invariant-loop-member l = IsGreatest (λ m. label_in l.labels m l.room) l.member l.cost

use Rattle.mud_guide.specs.inner.Gatherings.{BestSoFar}
use Rattle.mud_search.specs.Least.{label_in}
use Rattle.mud_guide.proofs.meeting.best.Given as goal

abbrev pub invariant-loop-room : goal.invariant-loop-room
invariant-loop-room l = BestSoFar (label_in l.labels) l.members l.room l.best

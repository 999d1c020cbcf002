use Rattle.std.proofs.Common.{[]}
use Rattle.mud_survey.specs.inner.Marks.{IsFlood, work_left}
use Rattle.mud_survey.proofs.back.rooms_back.Given as goal

-- no exit is left but those to rooms that wait
abbrev pub invariant-loop-room : goal.invariant-loop-room
invariant-loop-room l = IsFlood l.world l.traveller.player l.flood.marks.items l.flood.waiting.items []

abbrev pub decreases-loop-room : goal.decreases-loop-room
decreases-loop-room l = work_left l.flood.marks.items l.flood.waiting.items

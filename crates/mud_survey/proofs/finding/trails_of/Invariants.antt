use Rattle.std.proofs.Common.{take}
use Rattle.mud_survey.specs.inner.Trailed.{IsTrailed}
use Rattle.mud_survey.proofs.finding.trails_of.Given as goal

-- those of the players so far
abbrev pub invariant-loop-player : goal.invariant-loop-player
invariant-loop-player l = IsTrailed l.world (take l.player-index l.players) l.trails

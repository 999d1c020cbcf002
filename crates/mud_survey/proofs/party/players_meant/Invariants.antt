use Rattle.std.proofs.Common.{map, take}
use Rattle.mud_survey.specs.inner.Meant.{AreMeant}
use Rattle.mud_survey.proofs.party.players_meant.Given as goal

-- the words so far mean the players so far
abbrev pub invariant-loop-i : goal.invariant-loop-i
invariant-loop-i l = AreMeant l.world (map (λ s. s.now) (take l.i l.words)) l.players.items

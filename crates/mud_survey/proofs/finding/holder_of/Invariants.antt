use Rattle.std.proofs.Common.{◌≡◌, ◌-◌}
use Rattle.mud_survey.specs.inner.Tests.{holder_from}
use Rattle.mud_survey.proofs.finding.holder_of.Given as goal

-- the holder of the thing holds the object to which the places so far lead
abbrev pub invariant-loop-passed : goal.invariant-loop-passed
invariant-loop-passed l =
    holder_from l.world l.world.next l.thing ≡ holder_from l.world (l.world.next - l._passed) l.at

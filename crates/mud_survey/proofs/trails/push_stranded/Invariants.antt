use Rattle.std.proofs.Common.{◌≡◌, ◌++◌}
use Rattle.std.specs.List.{range_with_len}
use Rattle.mud_survey.specs.inner.Trailed.{strandings}
use Rattle.mud_survey.proofs.trails.push_stranded.Given as goal

-- those of the rooms so far are added
abbrev pub invariant-loop-room : goal.invariant-loop-room
invariant-loop-room l =
    l.stranded.items ≡ l.initial.stranded.items ++ strandings l.player l.reached l.back (range_with_len 0 l.room)

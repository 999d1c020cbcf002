use Rattle.std.proofs.Common.{◌≡◌, false, replicate, drop}
use Rattle.mud_world.specs.declared.limits.TheConstants.{NUMBERS}
use Rattle.mud_world.specs.inner.Marks.{mark_all}
use Rattle.mud_world.proofs.marks.marks_of.Given as goal

-- the remaining numbers are marked beside the present marks
abbrev pub invariant-loop-number : goal.invariant-loop-number
invariant-loop-number l =
    mark_all (drop l.number-index l.numbers) l.marks ≡ mark_all l.numbers (replicate NUMBERS false)

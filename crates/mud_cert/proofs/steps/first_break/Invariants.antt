use Rattle.std.proofs.Common.{◌≡◌, ◌+◌, drop}
use Rattle.mud_cert.specs.inner.Tests.{first_break}
use Rattle.mud_cert.proofs.steps.first_break.Given as goal

abbrev pub invariant-loop-i : goal.invariant-loop-i
invariant-loop-i l = first_break l.world l.at (l.i + 1) (drop l.i l.walk) ≡ first_break l.world l.from 1 l.walk

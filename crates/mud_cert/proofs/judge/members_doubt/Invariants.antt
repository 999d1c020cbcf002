use Rattle.std.proofs.Common.{◌≡◌, [], take, drop}
use Rattle.mud_cert.specs.inner.Tests.{members_doubt}
use Rattle.mud_cert.proofs.judge.members_doubt.Given as goal

abbrev pub invariant-loop-i : goal.invariant-loop-i
invariant-loop-i l =
    members_doubt l.world l.form (take l.i l.members) (drop l.i l.members) ≡ members_doubt l.world l.form [] l.members

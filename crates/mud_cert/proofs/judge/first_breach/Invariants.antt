use Rattle.std.proofs.Common.{◌≡◌, ◌-◌}
use Rattle.std.specs.List.{find, range_with_len}
use Rattle.mud_cert.specs.inner.Tests.{breaks, numbers}
use Rattle.mud_cert.proofs.judge.first_breach.Given as goal

abbrev pub invariant-loop-number : goal.invariant-loop-number
invariant-loop-number l = find (breaks l.world l.form l.member)
    (range_with_len l.number (l.world.next - l.number)) ≡ find (breaks l.world l.form l.member) (numbers l.world)

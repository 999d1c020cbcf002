use Rattle.std.proofs.Common.{arith}
use Rattle.mud_chron.proofs.BeforeZero.{ends_at, ends_nowhere}
use Rattle.mud_chron.proofs.holes.before_zero.Goals as goal

pub returns-then-b-eq0-clause-is : goal.returns-then-b-eq0-clause-is
returns-then-b-eq0-clause-is c =
    ends_at c.args.bytes.now c.loop-i.i c.loop-i-test.true c.if-b-eq0.true c.loop-i.invariant

pub returns-clause-is : goal.returns-clause-is
returns-clause-is c =
    ends_nowhere c.args.bytes.now (λ k less. c.loop-i.invariant k (omega (arith, less, c.loop-i-test.false)))

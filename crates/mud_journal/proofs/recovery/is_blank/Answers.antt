use Rattle.std.proofs.Common.{arith}
use Rattle.mud_journal.proofs.Finding.{blank_at, blank_from}
use Rattle.mud_journal.proofs.recovery.is_blank.Goals as goal

pub returns-then-b-eq-LF : goal.returns-then-b-eq-LF
returns-then-b-eq-LF c blank =
    (blank_at c.args.bytes.now c.loop-i.i c.loop-i-test.true blank).0 c.if-i-lt-FIRST_LINE_BYTES.true c.if-b-eq-LF.true

pub returns-then-b-ne0 : goal.returns-then-b-ne0
returns-then-b-ne0 c blank =
    c.if-b-ne0.true
    ((blank_at c.args.bytes.now c.loop-i.i c.loop-i-test.true blank).1 c.if-i-lt-FIRST_LINE_BYTES.false)

pub returns : goal.returns
returns c =
    blank_from c.args.bytes.now (λ k less. c.loop-i.invariant k (omega (arith, less, c.loop-i-test.false)))

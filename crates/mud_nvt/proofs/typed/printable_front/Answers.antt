use Rattle.std.proofs.Common.{arith}
use Rattle.std.proofs.lemmas.List.Elements.{All-more}
use Rattle.mud_nvt.specs.inner.Lines.{IsPrintable}
use Rattle.mud_nvt.proofs.typed.printable_front.Goals as goal

pub loop-at-preserved : goal.loop-at-preserved
loop-at-preserved c =
    All-more IsPrintable c.args.bytes.now c.loop-at.at 0 c.loop-at-test.true c.loop-at.invariant
    (omega arith, omega arith)

use Rattle.std.proofs.Common.{◌≡◌, true, get_or, take_all, arith}
use Rattle.std.proofs.lemmas.Bool.Decides.{nat_tests}
use Rattle.mud_nvt.specs.inner.Lines.{IsPrintable}
use Rattle.mud_nvt.proofs.Runs.{one_more}
use Rattle.mud_nvt.proofs.typed.are_printable.Goals.{then-byte-ge-SPACE, else-byte-ge-SPACE}
use Rattle.mud_nvt.proofs.typed.are_printable.Goals as goal

pub loop-byte-preserved : goal.loop-byte-preserved
loop-byte-preserved c =
    let here : c.if-byte-ge-SPACE.printable ≡ true → IsPrintable (get_or c.args.bytes.now c.loop-byte.byte-index 0) =
    elim c.if-byte-ge-SPACE.branch [
      | then-byte-ge-SPACE w ↦ λ holds. grind (arith, nat_tests)
      | else-byte-ge-SPACE w ↦ λ holds. absurd (grind (arith, nat_tests))
    ] in
    one_more c.args.bytes.now c.loop-byte.byte-index c.loop-byte.printable c.if-byte-ge-SPACE.printable
    c.loop-byte-test.true c.loop-byte.invariant here

pub returns : goal.returns
returns c = λ holds.
    rw (take_all c.loop-byte.byte-index c.args.bytes.now c.loop-byte-test.false) at (c.loop-byte.invariant holds)

use Rattle.std.proofs.Common.{◌≡◌, ◌+◌, ◌-◌, arith}
use Rattle.mud_nvt.proofs.Runs.{more_printable}
use Rattle.mud_nvt.proofs.typed.printable_runs.Goals as goal

pub loop-at-preserved : goal.loop-at-preserved
loop-at-preserved c =
    let run : c.loop-at.at + 16 - c.loop-at.at ≡ 16 = omega arith in
    record {
      within = omega arith;
      printable =
          more_printable c.args.bytes.now c.loop-at.at 16 c.loop-at.invariant.printable
          (rw run at (c.are_printable.ensures c.if-not-are_printable.false));
    }

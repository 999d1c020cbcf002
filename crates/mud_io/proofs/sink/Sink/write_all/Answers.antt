use Rattle.std.proofs.Common.{take, arith}
use Rattle.std.proofs.lemmas.List.{length-drop, take_rest}
use Rattle.std.proofs.Math.Seq.{take-add}
use Rattle.std.proofs.KnownBytes.{Appends-trans}
use Rattle.mud_io.proofs.sink.Sink.write_all.Goals as goal

pub loop-at-preserved : goal.loop-at-preserved
loop-at-preserved g c =
    let bytes = c.args.bytes.now in
    record {
      within = omega (arith, c.in-Ok.ensures.bound, length-drop c.loop-at.at bytes);
      taken = rw take-add
          (Appends-trans _ _ _ (take c.loop-at.at bytes) _ c.loop-at.invariant.taken
          (rw take_rest at c.in-Ok.ensures.bytes));
    }

use Rattle.std.proofs.Common.{arith, subst, sym}
use Rattle.mud_compact.proofs.Longest.{broken_some, nothing_found, whole_faulty, found_longest}
use Rattle.mud_compact.proofs.saving.front_of_broken.Goals as goal

pub returns : goal.returns
returns c =
    found_longest c.args.bytes.now c.loop-low.front.format c.loop-low.front.entries.items c.loop-low.front.keep
    c.loop-low.low c.loop-low.high c.requires c.loop-low.invariant.found c.loop-low.invariant.faulty
    (omega (arith, c.loop-low-test.false))

use Rattle.std.proofs.Common.{take, arith}
use Rattle.mud_explain.proofs.Handing.{handed-more, handed-back}
use Rattle.mud_explain.proofs.play.handed_in.Goals as goal

pub returns-in_default-clause-none : goal.returns-in_default-clause-none
returns-in_default-clause-none g c =
    let back = handed-back (take c.loop-number.number-index c.args.numbers.now) c.args.desks.now.items
    c.loop-number.handed.items c.loop-number.desks.items c.loop-number.invariant in
    rw c.in_ok-take_back.ensures back

pub loop-number-preserved : goal.loop-number-preserved
loop-number-preserved g c =
    let there = c.in-Some.ensures.desk in
    let more = handed-more c.args.numbers.now c.loop-number.number-index c.in-Some.at c.args.desks.now.items
    c.loop-number.handed.items c.loop-number.desks.items c.remove.result there.0
    c.loop-number.invariant (omega (arith, c.loop-number-test.true)) c.in-Some.ensures.inside
    there.1 there.2 c.remove.ensures.value in
    rw (c.in_ok-push.ensures.items, c.remove.ensures.items) more

use Rattle.std.proofs.Common.{arith}
use Rattle.mud_diff.proofs.Found.{all_found}
use Rattle.mud_diff.proofs.comparing.differences.Goals as goal

pub returns : goal.returns
returns c =
    let end = c.max-number-end.ensures in
    let past = c.loop-number-test.false in
    let one = c.next_number.ensures.next in
    let other = c.next_number-2.ensures.next in
    all_found c.args.old.now c.args.new.now c.next_number.ensures.sound c.next_number-2.ensures.sound
    c.loop-number.number (omega (arith, end, past, one)) (omega (arith, end, past, other)) c.loop-number.found.items
    c.loop-number.invariant

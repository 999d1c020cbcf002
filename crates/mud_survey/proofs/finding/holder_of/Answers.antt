use Rattle.std.proofs.Common.{sym, ◌∙◌, arith}
use Rattle.mud_survey.proofs.Testing.{holder-on}
use Rattle.mud_survey.proofs.finding.holder_of.Goals as goal

pub loop-passed-preserved : goal.loop-passed-preserved
loop-passed-preserved c =
    let w = c.args.world.now in
    c.loop-passed.invariant
    ∙ holder-on w w.next c.loop-passed._passed c.loop-passed.at c.in_ok-place.place
    (let inside = c.loop-passed-test.true in
    let next = c.next_number-passed-end.ensures.next in omega (arith, inside, next))
    (sym c.in_ok-place.ensures) (sym c.if-not-is_thing.ensures)

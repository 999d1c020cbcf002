use Rattle.std.proofs.Common.{sym}
use Rattle.std.proofs.lemmas.List.{take_rest}
use Rattle.mud_chron.proofs.Lined.{cut-at, line-whole}
use Rattle.mud_check.proofs.Parting.{ends, ends-not, one-passed}
use Rattle.mud_check.proofs.input.split.Goals as goal

pub returns-then-begins_end : goal.returns-then-begins_end
returns-then-begins_end c =
    let cut =
    cut-at c.loop-at.rest.now c.split_at.result.0.now c.split_at.result.1.now c.in-Some.at c.in-Some.ensures
    c.split_at.ensures.front c.split_at.ensures.back in
    rw take_rest
    (ends c.args.bytes.now c.loop-at.rest.now c.split_at.result.0.now _ c.loop-at.invariant cut.0 cut.1
    (sym c.if-begins_end.ensures))

pub loop-at-preserved : goal.loop-at-preserved
loop-at-preserved c =
    let cut =
    cut-at c.loop-at.rest.now c.split_at.result.0.now c.split_at.result.1.now c.in-Some.at c.in-Some.ensures
    c.split_at.ensures.front c.split_at.ensures.back in
    rw take_rest
    (one-passed c.args.bytes.now c.loop-at.rest.now c.split_at.result.0.now _ c.loop-at.invariant cut.0 cut.1
    (sym c.if-begins_end.ensures))

pub returns : goal.returns
returns c =
    ends-not c.args.bytes.now c.loop-at.rest.now c.loop-at.invariant
    (line-whole c.loop-at.rest.now c.in_default.ensures)

use Rattle.std.proofs.Common.{◌<◌, length, string_bytes, sym, arith}
use Rattle.std.proofs.lemmas.Bool.{eqb-true, eqb-false}
use Rattle.std.proofs.lemmas.List.{nil_from_length, take_rest}
use Rattle.mud_explain.specs.Explanation.{Says}
use Rattle.mud_explain.proofs.Answering.{goes_on-next, goes_on-end, goes_on-last}
use Rattle.mud_chron.proofs.Lined.{cut-at, line-whole}
use Rattle.mud_explain.proofs.lines.explained_lines.Goals as goal

pub loop-at-preserved : goal.loop-at-preserved
loop-at-preserved c =
    let cut =
    cut-at c.loop-at.rest.now c.split_at.result.0.now c.split_at.result.1.now c.in-Some.at c.in-Some.ensures
    c.split_at.ensures.front c.split_at.ensures.back in
    rw take_rest (goes_on-next (Says c.args.reading) c.args.input.now c.loop-at.rest.now _ _
    (string_bytes c.loop-at.out)
    (string_bytes c.push_said.new.out) c.loop-at.invariant cut.0 cut.1 c.in_ok-push_said.ensures)

pub returns-then-is_empty : goal.returns-then-is_empty
returns-then-is_empty c =
    goes_on-end (Says c.args.reading) c.args.input.now c.loop-at.rest.now
    (string_bytes c.loop-at.out) c.loop-at.invariant
    (nil_from_length c.loop-at.rest.now (eqb-true (length c.loop-at.rest.now) 0 (sym c.if-is_empty.ensures)))

pub returns : goal.returns
returns c =
    let some = eqb-false (length c.loop-at.rest.now) 0 (sym c.if-is_empty.ensures) in
    let long : 0 < length c.loop-at.rest.now = omega (arith, some) in
    goes_on-last (Says c.args.reading) c.args.input.now c.loop-at.rest.now (string_bytes c.loop-at.out)
    (string_bytes c.push_said-2.new.out)
    c.loop-at.invariant long (line-whole c.loop-at.rest.now c.in_default.ensures) c.in_ok-push_said-2.ensures

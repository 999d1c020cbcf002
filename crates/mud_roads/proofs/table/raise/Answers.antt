use Rattle.std.proofs.Common.{◌<◌, suc, length, get_or, set, ap, ◌∙◌, add-one, arith}
use Rattle.std.proofs.lemmas.List.{get_or_default}
use Rattle.std.proofs.lemmas.List.Edits.{map_over_more}
use Rattle.mud_roads.proofs.table.raise.Goals as goal

pub loop-end-preserved : goal.loop-end-preserved
loop-end-preserved c =
    let ends = c.loop-end.ends in
    let i = c.loop-end.end-index in
    let end = get_or ends i 0 in
    let within : i < length ends = omega arith in
    ap (set ends i) (add-one end)
    ∙ map_over_more suc c.args.ends.now ends i end (omega arith) c.loop-end.invariant
    (get_or_default ends i 0 end within)

use Rattle.std.proofs.Common.{◌<◌, length, get_or, set, sym, ◌∙◌, ap, arith}
use Rattle.std.proofs.lemmas.List.{get_or_default}
use Rattle.std.proofs.lemmas.List.Edits.{map_over_more}
use Rattle.mud_roads.specs.inner.Tables.{end_without}
use Rattle.mud_roads.proofs.Removing.{end-after, end-before}
use Rattle.mud_roads.proofs.table.lower.Goals as goal
use Rattle.mud_roads.proofs.table.lower.Goals.{then-index-end, else-index-end}

pub loop-end-preserved : goal.loop-end-preserved
loop-end-preserved c =
    let ends = c.loop-end.ends in
    let i = c.loop-end.end-index in
    let end = get_or ends i 0 in
    let within : i < length ends = omega arith in
    let more = map_over_more (end_without c.args.index) c.args.ends.now ends i end (omega arith) c.loop-end.invariant
    (get_or_default ends i 0 end within) in
    elim c.if-index-end.branch [
      | then-index-end w ↦ w.ends-is
          ∙ ap (set ends i) (sym (end-after c.args.index end w.if-index-end.true)) ∙ more
      | else-index-end w ↦ w.ends-is
          ∙ ap (set ends i) (sym (end-before c.args.index end w.if-index-end.false)) ∙ more
    ]

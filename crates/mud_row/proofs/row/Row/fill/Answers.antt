use Rattle.std.proofs.Common.{ap, sym, arith, length, length-append, subst}
use Rattle.mud_row.specs.Known.{Fills, Known}
use Rattle.mud_row.proofs.Notes.{fills, any_err}
use Rattle.mud_row.proofs.row.Row.fill.Goals as goal

pub returns-in_err-entry-clause-err : goal.returns-in_err-entry-clause-err
returns-in_err-entry-clause-err c =
    any_err c.from_residual.result (Fills c.args.pass.now.list c.args.entries.items c.loop-entry.pass.list)
    (fills c.args.pass.now.list c.loop-entry.pass.list c.loop-entry.entry-iterator.rest.items c.args.entries.items
    c.loop-entry.invariant.longer c.loop-entry.invariant.list)

pub returns-in-Err-default-HistoryFull-clause-err : goal.returns-in-Err-default-HistoryFull-clause-err
returns-in-Err-default-HistoryFull-clause-err c =
    let f = fills c.args.pass.now.list c.loop-entry.pass.list c.loop-entry.entry-iterator.rest.items
    c.args.entries.items c.loop-entry.invariant.longer c.loop-entry.invariant.list in
    subst (λ (k : Known). Fills c.args.pass.now.list c.args.entries.items k.list)
    (sym c.in-Err-default-HistoryFull.ensures.refused.0) f

pub returns-in-Err-default-HistoryFull-clause-full : goal.returns-in-Err-default-HistoryFull-clause-full
returns-in-Err-default-HistoryFull-clause-full c full =
    let known = c.in-Err-default-HistoryFull.ensures.full.0 c.in-Err-default-HistoryFull.field-0-1-is in
    let left = ap length c.in-Some.ensures.steps.0 in
    let whole = ap length c.loop-entry.invariant.list in
    omega (
      arith,
      known,
      left,
      whole,
      length-append c.loop-entry.pass.list
          c.loop-entry.entry-iterator.rest.items,
      length-append c.args.pass.now.list c.args.entries.items,
    )

pub returns-in-Err-default-Unpublished-clause-err : goal.returns-in-Err-default-Unpublished-clause-err
returns-in-Err-default-Unpublished-clause-err c =
    let f = fills c.args.pass.now.list c.loop-entry.pass.list c.loop-entry.entry-iterator.rest.items
    c.args.entries.items c.loop-entry.invariant.longer c.loop-entry.invariant.list in
    subst (λ (k : Known). Fills c.args.pass.now.list c.args.entries.items k.list)
    (sym c.in-Err-default-Unpublished.ensures.refused.0) f

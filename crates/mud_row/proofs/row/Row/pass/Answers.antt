use Rattle.std.proofs.Common.{◌≡◌, length, map, ap, ◌∙◌, refl, arith, add-one}
use Rattle.std.proofs.lemmas.List.{take_all}
use Rattle.once_cell.specs.Once.{cell_name}
use Rattle.mud_row.specs.inner.Known.{names_of}
use Rattle.mud_row.proofs.Notes.{names_more, same_length}
use Rattle.mud_row.proofs.row.Row.pass.Goals as goal

pub loop-cell-preserved : goal.loop-cell-preserved
loop-cell-preserved c =
    ap names_of c.in_ok-push.ensures.items
    ∙ rw add-one
    (names_more c.deref-cell-items.result.now c.loop-cell.notes.items c.loop-cell.cell-index c.cell-item.result
    c.note.result c.loop-cell.invariant c.loop-cell-test.true c.cell-item.is c.note.ensures.0)

pub invariant_of-result : goal.invariant_of-result
invariant_of-result c =
    let whole : names_of c.loop-cell.notes.items ≡ map cell_name c.deref-cell-items.result.now =
    c.loop-cell.invariant
    ∙ ap (map cell_name) (take_all c.loop-cell.cell-index c.deref-cell-items.result.now c.loop-cell-test.false) in (
      omega (
        arith,
        same_length c.deref-cell-items.result.now c.loop-cell.notes.items whole,
        ap length
            c.deref-cell-items.ensures.value,
        c.self.invariant,
      ),
      refl,
    )

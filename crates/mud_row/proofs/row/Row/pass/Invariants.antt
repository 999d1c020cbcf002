use Rattle.std.proofs.Common.{◌≡◌, take, map}
use Rattle.once_cell.specs.Once.{cell_name}
use Rattle.mud_row.specs.inner.Known.{names_of}
use Rattle.mud_row.proofs.row.Row.pass.Given as goal

abbrev pub invariant-loop-cell : goal.invariant-loop-cell
invariant-loop-cell l = names_of l.notes.items ≡ map cell_name (take l.cell-index l.cell-items)

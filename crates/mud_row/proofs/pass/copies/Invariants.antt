use Rattle.std.proofs.Common.{◌≡◌, take}
use Rattle.mud_row.proofs.pass.copies.Given as goal

abbrev pub invariant-loop-i : goal.invariant-loop-i
invariant-loop-i l = (l.notes.items ≡ l.fn.notes.items) × (l.all.items ≡ take l.i l.fn.notes.items)

use Rattle.std.proofs.Common.{◌≡◌, take}
use Rattle.mud_row.specs.inner.Known.{names_of}
use Rattle.mud_row.proofs.pass.take_over.Given as goal

abbrev pub invariant-loop-i : goal.invariant-loop-i
invariant-loop-i l =
    (names_of l.mine.items ≡ names_of l.fn.mine.items) × (l.theirs.items ≡ l.fn.theirs.items)
    × (take l.i l.mine.items ≡ take l.i l.fn.theirs.items)

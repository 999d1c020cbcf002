use Rattle.std.proofs.Common.{◌≡◌, take}
use Rattle.mud_row.specs.inner.Known.{known_front}
use Rattle.mud_row.proofs.pass.compare.Given as goal

abbrev pub invariant-loop-i : goal.invariant-loop-i
invariant-loop-i l =
    (l.mine.items ≡ l.fn.mine.items) × (l.theirs.items ≡ l.fn.theirs.items)
    × (take l.i (known_front l.mine_known l.fn.mine.items) ≡ take l.i (known_front l.theirs_known l.fn.theirs.items))

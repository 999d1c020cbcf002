use Rattle.std.proofs.Common.{◌≡◌, take}
use Rattle.mud_row.proofs.history.entries_known.Given as goal

-- the copies are those of the first entries
abbrev pub invariant-loop-n : goal.invariant-loop-n
invariant-loop-n l = (l.pass ≡ l.fn.pass) × (l.entries.items ≡ take l.n l.fn.pass.list)

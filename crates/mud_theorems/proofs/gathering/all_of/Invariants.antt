use Rattle.std.proofs.Common.{◌≡◌, map, Ok}
use Rattle.mud_theorems.proofs.gathering.all_of.Given as goal

abbrev pub invariant-loop-result : goal.invariant-loop-result
invariant-loop-result g l = l.yielded ≡ map Ok l.all.items

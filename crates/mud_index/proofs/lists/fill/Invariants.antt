use Rattle.std.proofs.Common.{◌≡◌, ℕ, [], length, get_or}
use Rattle.mud_index.proofs.lists.fill.Given as goal

abbrev pub invariant-loop : goal.invariant-loop
invariant-loop l = record {
  same : (n : ℕ) → get_or l.lists.items n [] ≡ get_or l.fn.lists.items n [];
  len : length l.lists.items ≡ l.counter;
}

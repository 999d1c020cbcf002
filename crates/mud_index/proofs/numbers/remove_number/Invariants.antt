use Rattle.std.proofs.Common.{◌≡◌, length}
use Rattle.std.specs.List.Sorted.{IsNonDecreasing}
use Rattle.mud_index.specs.Rising.{without}
use Rattle.mud_index.proofs.numbers.remove_number.Given as goal

-- the remaining list is sorted, and has the same other numbers
abbrev pub invariant-loop-place : goal.invariant-loop-place
invariant-loop-place l = record {
  rising : IsNonDecreasing l.numbers.items;
  same : without l.number l.numbers.items ≡ without l.number l.initial.numbers.items;
}

abbrev pub decreases-loop-place : goal.decreases-loop-place
decreases-loop-place l = length l.numbers.items

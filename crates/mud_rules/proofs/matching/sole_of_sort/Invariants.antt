use Rattle.std.proofs.Common.{◌≡◌}
use Rattle.std.specs.Prelude.{filter}
use Rattle.std.specs.List.{range_with_len}
use Rattle.mud_rules.specs.inner.Matches.{sole_fit, is_sort}
use Rattle.mud_rules.proofs.matching.sole_of_sort.Given as goal

abbrev pub invariant-loop-number : goal.invariant-loop-number
invariant-loop-number l =
    l.found ≡ sole_fit l.likeness l.world l.text (filter (is_sort l.sort l.world) (range_with_len 0 l.number))

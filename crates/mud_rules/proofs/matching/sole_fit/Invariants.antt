use Rattle.std.proofs.Common.{◌≡◌, take}
use Rattle.mud_rules.specs.inner.Matches.{sole_fit}
use Rattle.mud_rules.proofs.matching.sole_fit.Given as goal

abbrev pub invariant-loop-number : goal.invariant-loop-number
invariant-loop-number l = l.found ≡ sole_fit l.likeness l.world l.text (take l.number-index l.numbers)

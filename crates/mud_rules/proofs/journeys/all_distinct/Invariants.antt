use Rattle.std.proofs.Common.{◌≡◌, drop}
use Rattle.mud_rules.specs.Party.{all_distinct}
use Rattle.mud_rules.proofs.journeys.all_distinct.Given as goal

-- the rest gives the result of the whole
abbrev pub invariant-loop-index : goal.invariant-loop-index
invariant-loop-index l = all_distinct (drop l.index l.party) ≡ all_distinct l.party

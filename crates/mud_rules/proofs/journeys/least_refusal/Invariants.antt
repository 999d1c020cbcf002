use Rattle.std.proofs.Common.{◌≡◌, drop}
use Rattle.mud_world.specs.Refusals.{lesser}
use Rattle.mud_rules.specs.Journeys.{least_refusal}
use Rattle.mud_rules.proofs.journeys.least_refusal.Given as goal

-- the lesser of the refusals found so far and of the rest is the least of all
abbrev pub invariant-loop-one : goal.invariant-loop-one
invariant-loop-one l = lesser l.least (least_refusal (drop l.one-index l.found)) ≡ least_refusal l.found

use Rattle.std.proofs.Common.{◌≡◌, ◌++◌, drop}
use Rattle.mud_rules.specs.Journeys.{members}
use Rattle.mud_rules.proofs.journeys.members.Given as goal

-- the players found so far, and those of the rest, are all
abbrev pub invariant-loop-one : goal.invariant-loop-one
invariant-loop-one l = l.party.items ++ members (drop l.one-index l.found) ≡ members l.found

use Rattle.std.proofs.Common.{◌≡◌, ◌-◌, drop}
use Rattle.std.specs.List.{list_any}
use Rattle.mud_world.specs.inner.Askers.{climbs}
use Rattle.mud_world.proofs.world.World.+climbs.Given as goal

abbrev pub decreases-climbs : goal.decreases-climbs
decreases-climbs l = l.count

-- the rest gives the result of the whole
abbrev pub invariant-loop-asker : goal.invariant-loop-asker
invariant-loop-asker l =
    list_any (climbs l.self (l.count - 1)) l.asker-items
    ≡ list_any (climbs l.self (l.count - 1)) (drop l.asker-index l.asker-items)

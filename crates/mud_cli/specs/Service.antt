-- The limits of what mud_serve can be asked for.
use Rattle.std.specs.Prelude.{◌≤◌}
use Rattle.mud_cli.specs.declared.limits.ChosenLimits.{ChosenLimits}
use Rattle.mud_cli.specs.declared.limits.TheConstants.{MOST_CAPACITY, MOST_WORKERS, MOST_TOTAL}
use Rattle.mud_cli.specs.declared.service.Service.{Service}
use Rattle.mud_cli.specs.declared.service.Service.TheVariants.{Script, Listen}

-- there are 0 to 8 workers, and the history has room for 1 to 65,536 changes
pub record AreWithin (limits : ChosenLimits) : Type 0 where
  pub workers : limits.workers ≤ MOST_WORKERS
  pub least : 1 ≤ limits.capacity
  pub most : limits.capacity ≤ MOST_CAPACITY

-- the numbers of a service are within their limits
abbrev pub IsServed : Service → Type 0
IsServed (Script scripting) = AreWithin scripting.limits
IsServed (Listen listening) = AreWithin listening.limits × (listening.total ≤ MOST_TOTAL)

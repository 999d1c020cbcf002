-- The limits of what mud_explain can be asked for.
use Rattle.std.specs.Prelude.{◌≤◌}
use Rattle.mud_cli.specs.declared.limits.TheConstants.{MOST_CAPACITY}
use Rattle.mud_cli.specs.declared.task.Task.{Task}
use Rattle.mud_cli.specs.declared.task.Task.TheVariants.{Text, Hall}

-- the history has room for 1 to 65,536 changes
abbrev pub IsWithin : Task → Type 0
IsWithin (Text subject) = Unit {0}
IsWithin (Hall opening) = (1 ≤ opening.capacity) × (opening.capacity ≤ MOST_CAPACITY)

use Rattle.std.specs.Prelude.{◌<◌}
use Rattle.mud_hall.specs.Desk.{TakesIn}
use Rattle.mud_hall.proofs.hall.Hall.lock_for.Given as goal

abbrev pub invariant-loop : goal.invariant-loop
invariant-loop g l = TakesIn l.fn.desk.state l.desk.state × (l.tries < 500)

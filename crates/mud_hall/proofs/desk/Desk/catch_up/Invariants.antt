use Rattle.std.proofs.Common.{◌≡◌}
use Rattle.mud_hall.proofs.desk.Desk.catch_up.Given as goal

abbrev pub invariant-loop : goal.invariant-loop
invariant-loop g l = (l.self.state ≡ l.fn.self.state) × (l.self.at ≡ l.counter)

use Rattle.std.proofs.Common.{◌≡◌}
use Rattle.mud_row.proofs.replica.Replica.catch_up.Given as goal

abbrev pub invariant-loop : goal.invariant-loop
invariant-loop l = (l.self.row ≡ l.fn.self.row) × (l.self.list ≡ l.fn.self.list) × (l.self.at ≡ l.counter)

use Rattle.std.proofs.Common.{◌≡◌, map}
use Rattle.mud_theorems.proofs.gathering.seat_all.Given as goal

abbrev pub invariant-loop-script : goal.invariant-loop-script
invariant-loop-script g l = map (λ p. p.typed) l.players.items ≡ l.yielded

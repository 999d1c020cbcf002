use Rattle.std.proofs.Common.{◌≡◌, length}
use Rattle.mud_server_state.proofs.state.free_places.Given as goal

abbrev pub invariant-loop : goal.invariant-loop
invariant-loop g l = length l.list.items ≡ l.counter

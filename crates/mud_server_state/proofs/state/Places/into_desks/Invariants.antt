use Rattle.std.proofs.Common.{◌≤◌, ◌+◌, length}
use Rattle.mud_server_state.proofs.state.Places.into_desks.Given as goal

abbrev pub invariant-loop-place : goal.invariant-loop-place
invariant-loop-place g l = length l.desks.items + length l.place-iterator.rest.items ≤ length l.fn.self.list.items

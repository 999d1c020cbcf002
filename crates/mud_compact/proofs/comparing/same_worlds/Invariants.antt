use Rattle.std.proofs.Common.{◌≡◌, ℕ, ◌<◌}
use Rattle.mud_world.specs.State.{record_at}
use Rattle.mud_compact.proofs.comparing.same_worlds.Given as goal

-- each number so far has equal records
abbrev pub invariant-loop-number : goal.invariant-loop-number
invariant-loop-number l = (n : ℕ) → n < l.number → record_at l.world n ≡ record_at l.other n

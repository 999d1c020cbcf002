use Rattle.std.proofs.Common.{◌≡◌, ◌+◌, ℕ, drop}
use Rattle.mud_world.specs.State.{IsHolding}
use Rattle.mud_cert.specs.inner.Tests.{first_lock}
use Rattle.mud_cert.proofs.steps.first_lock.Given as goal

abbrev pub invariant-loop-i : goal.invariant-loop-i
invariant-loop-i l =
    (p : ℕ) → IsHolding l.world p l.holding
    → first_lock l.world p (l.i + 1) (drop l.i l.walk) ≡ first_lock l.world p 1 l.walk

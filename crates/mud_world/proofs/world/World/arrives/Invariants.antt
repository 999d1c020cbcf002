use Rattle.std.proofs.Common.{◌≡◌, ℕ, ◌+◌}
use Rattle.mud_world.specs.inner.Reach.{arrives}
use Rattle.mud_world.proofs.world.World.arrives.Given as goal

-- the rest of the way gives the result of the whole
abbrev pub invariant-loop-step : goal.invariant-loop-step
invariant-loop-step l = (m : ℕ) → m + l._step ≡ l.self.next
    → arrives l.self m l.actor l.at ≡ arrives l.self l.self.next l.actor l.object

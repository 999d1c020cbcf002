use Rattle.std.proofs.Common.{◌≡◌, ◌≤◌, ◌-◌, ℕ, List, take, length}
use Rattle.mud_nvt.specs.History.{StandsAfter}
use Rattle.mud_session.specs.inner.Feeding.{Fed}
use Rattle.mud_session.proofs.session.Session.feed.Given as goal

-- the bytes so far are consumed, and their units had their turns
abbrev pub invariant-loop-taken : goal.invariant-loop-taken
invariant-loop-taken g l = record {
  within : l.taken ≤ length l.bytes;
  capacity : (g.D.Door.state l.door).capacity ≡ (g.D.Door.state l.fn.door).capacity;
  fed : (earlier : List ℕ) → StandsAfter l.fn.self.terminal earlier
      → Fed g.D.Door.takes_in earlier (take l.taken l.bytes) l.fn.self l.self
      (g.D.Door.state l.fn.door) (g.D.Door.state l.door);
}

abbrev pub decreases-loop-taken : goal.decreases-loop-taken
decreases-loop-taken g l = length l.bytes - l.taken

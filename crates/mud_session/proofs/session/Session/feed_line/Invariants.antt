use Rattle.std.proofs.Common.{◌≡◌, ◌++◌, List, take}
use Rattle.mud_nvt.specs.Units.{Given}
use Rattle.mud_nvt.specs.UnitViews.{all_shown}
use Rattle.mud_session.specs.State.{SessionState, DoorState}
use Rattle.mud_session.specs.inner.Feeding.{SoFar}
use Rattle.mud_session.proofs.session.Session.feed_line.Given as goal

-- the units so far had their turns
abbrev pub invariant-loop-unit : goal.invariant-loop-unit
invariant-loop-unit g l = record {
  terminal : l.self.terminal ≡ l.initial.self.terminal;
  capacity : (g.D.Door.state l.door).capacity ≡ (g.D.Door.state l.initial.door).capacity;
  so_far : (xs : List Given) (start : SessionState) (begun : DoorState)
      → SoFar g.D.Door.takes_in xs start l.initial.self begun (g.D.Door.state l.initial.door)
      → SoFar g.D.Door.takes_in (xs ++ all_shown (take l.unit-index l.unit-items)) start l.self
      begun (g.D.Door.state l.door);
}

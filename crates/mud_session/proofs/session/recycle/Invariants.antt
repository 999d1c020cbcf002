use Rattle.std.proofs.Common.{◌≡◌, length}
use Rattle.mud_session.proofs.session.recycle.Given as goal

abbrev pub invariant-loop-unit : goal.invariant-loop-unit
invariant-loop-unit l = l.terminal ≡ l.initial.terminal

abbrev pub decreases-loop-unit : goal.decreases-loop-unit
decreases-loop-unit l = length l.units.items

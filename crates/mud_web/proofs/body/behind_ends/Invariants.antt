use Rattle.std.proofs.Common.{◌≡◌, drop}
use Rattle.mud_web.specs.inner.Fronts.{behind_ends}
use Rattle.mud_web.proofs.body.behind_ends.Given as goal

abbrev pub invariant-loop-at : goal.invariant-loop-at
invariant-loop-at l = behind_ends (drop l.at l.bytes) ≡ behind_ends l.bytes

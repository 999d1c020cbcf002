use Rattle.std.proofs.Common.{◌≡◌, take}
use Rattle.mud_guide.specs.Ways.{exits_of}
use Rattle.mud_guide.proofs.accounts.exits_of.Given as goal

abbrev pub invariant-loop-step : goal.invariant-loop-step
invariant-loop-step l = l.exits.items ≡ exits_of (take l.step-index l.steps)

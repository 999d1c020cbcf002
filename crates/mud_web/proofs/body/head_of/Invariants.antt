use Rattle.std.proofs.Common.{◌<◌, ℕ, drop}
use Rattle.mud_web.specs.Parts.{EndsHead}
use Rattle.mud_web.proofs.body.head_of.Given as goal

abbrev pub invariant-loop-at : goal.invariant-loop-at
invariant-loop-at l = (k : ℕ) → k < l.at → ¬ (EndsHead (drop k l.answer))

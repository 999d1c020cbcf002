use Rattle.std.proofs.Common.{◌≤◌, ◌<◌, ◌-◌, length, take}
use Rattle.mud_chron.specs.Fronts.{Recovers}
use Rattle.mud_compact.specs.inner.Broken.{IsFaulty}
use Rattle.mud_compact.proofs.saving.front_of_broken.Given as goal

-- the prefix was found in the lower one, and the higher one can't be read
abbrev pub invariant-loop-low : goal.invariant-loop-low
invariant-loop-low l = record {
  apart : l.low < l.high;
  within : l.high ≤ length l.bytes;
  found : Recovers (take l.low l.bytes) l.front.format l.front.entries.items l.front.keep;
  faulty : IsFaulty (take l.high l.bytes);
}

abbrev pub decreases-loop-low : goal.decreases-loop-low
decreases-loop-low l = l.high - l.low

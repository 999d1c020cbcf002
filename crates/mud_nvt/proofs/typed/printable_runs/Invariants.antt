use Rattle.std.proofs.Common.{◌≤◌, ◌-◌, take, length, All}
use Rattle.mud_nvt.specs.inner.Lines.{IsPrintable}
use Rattle.mud_nvt.proofs.typed.printable_runs.Given as goal

abbrev pub invariant-loop-at : goal.invariant-loop-at
invariant-loop-at l = record {
  within : l.at ≤ length l.bytes;
  printable : All IsPrintable (take l.at l.bytes);
}

abbrev pub decreases-loop-at : goal.decreases-loop-at
decreases-loop-at l = length l.bytes - l.at

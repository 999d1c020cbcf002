use Rattle.std.proofs.Common.{◌≡◌, length}
use Rattle.mud_journal.specs.Crash.{AreThere}
use Rattle.mud_tests.proofs.disk.holes.Given as goal

-- the bytes left at the first places
abbrev pub invariant-loop-at : goal.invariant-loop-at
invariant-loop-at l = record {
  there : AreThere l.written l.bytes.items;
  count : length l.bytes.items ≡ l.at;
}

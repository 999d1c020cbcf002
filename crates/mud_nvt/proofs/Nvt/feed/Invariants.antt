use Rattle.std.proofs.Common.{◌≡◌, ◌≤◌, ◌-◌, ◌++◌, take, length, All}
use Rattle.mud_nvt.specs.inner.Machine.{run, run_units}
use Rattle.mud_nvt.specs.Lines.{IsSound}
use Rattle.mud_nvt.specs.UnitViews.{all_shown}
use Rattle.mud_nvt.proofs.Nvt.feed.Given as goal

abbrev pub invariant-loop-taken : goal.invariant-loop-taken
invariant-loop-taken g l = record {
  within : l.taken ≤ length l.bytes;
  state : l.self ≡ run l.fn.self (take l.taken l.bytes);
  sound : All IsSound (all_shown l.fn.units.items) → All IsSound (all_shown l.units.items);
  given : all_shown l.units.items ≡ all_shown l.fn.units.items ++ run_units l.fn.self (take l.taken l.bytes);
}

abbrev pub decreases-loop-taken : goal.decreases-loop-taken
decreases-loop-taken g l = length l.bytes - l.taken

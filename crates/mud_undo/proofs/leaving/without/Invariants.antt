use Rattle.std.proofs.Common.{◌≡◌, take}
use Rattle.mud_world.specs.Opening.{opening_state}
use Rattle.mud_undo.specs.Without.{without}
use Rattle.mud_undo.specs.inner.Building.{IsBuilt}
use Rattle.mud_undo.proofs.Numbers.{number_after}
use Rattle.mud_undo.proofs.leaving.without.Given as goal

-- the substitutes of the entries so far are built, and the next number is that after them
abbrev pub invariant-loop-i : goal.invariant-loop-i
invariant-loop-i l = record {
  is : l.site.entries.items ≡ without l.choice (take l.i l.entries);
  built : IsBuilt l.site.entries.items l.site.world;
  number : l.next ≡ number_after opening_state.next (take l.i l.entries);
}

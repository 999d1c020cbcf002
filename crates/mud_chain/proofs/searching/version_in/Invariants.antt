use Rattle.std.proofs.Common.{◌≡◌, take}
use Rattle.mud_world.specs.History.{world_of}
use Rattle.mud_chron.specs.Replay.{changes_of, world_at, AreLegal}
use Rattle.mud_chain.specs.inner.Searched.{IsSearched}
use Rattle.mud_chain.proofs.searching.version_in.Given as goal

-- the world is that of the changes so far, which are legal; the versions before it were looked at
abbrev pub invariant-loop-i : goal.invariant-loop-i
invariant-loop-i l = record {
  legal : AreLegal (changes_of (take l.i l.entries));
  world : l.world ≡ world_of (changes_of (take l.i l.entries));
  found : IsSearched (world_at l.entries) l.end l.most l.i l.found;
}

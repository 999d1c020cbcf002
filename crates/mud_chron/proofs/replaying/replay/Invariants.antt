use Rattle.std.proofs.Common.{◌≡◌, take}
use Rattle.mud_world.specs.History.{world_of}
use Rattle.mud_chron.specs.Replay.{changes_of, AreLegal}
use Rattle.mud_chron.proofs.replaying.replay.Given as goal

-- the world is that of the changes so far, which are legal
abbrev pub invariant-loop-i : goal.invariant-loop-i
invariant-loop-i l = record {
  legal : AreLegal (changes_of (take l.i l.entries));
  world : l.world ≡ world_of (changes_of (take l.i l.entries));
}

use Rattle.std.proofs.Common.{◌≡◌, take}
use Rattle.std.specs.Prelude.{All}
use Rattle.mud_world.specs.History.{world_of}
use Rattle.mud_chron.specs.Entry.{IsEntry}
use Rattle.mud_chron.specs.Replay.{changes_of, AreLegal}
use Rattle.mud_row.proofs.history.replay_known.Given as goal

-- the world is that of the changes so far, which are legal
abbrev pub invariant-loop-n : goal.invariant-loop-n
invariant-loop-n l = record {
  pass : l.pass ≡ l.fn.pass;
  each : All IsEntry (take l.n l.fn.pass.list);
  legal : AreLegal (changes_of (take l.n l.fn.pass.list));
  world : l.world ≡ world_of (changes_of (take l.n l.fn.pass.list));
}

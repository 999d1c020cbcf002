use Rattle.std.proofs.Common.{◌≡◌, ◌≤◌, ◌+◌, ◌*◌, ◌^◌, drop}
use Rattle.mud_roads.specs.Walks.{total}
use Rattle.mud_cert.specs.inner.Ways.{end_of, steps_of}
use Rattle.mud_cert.proofs.steps.progress_of.Given as goal

abbrev pub invariant-loop-exit : goal.invariant-loop-exit
invariant-loop-exit l = record {
  end : end_of l.all.end (steps_of l.world (drop l.exit-index l.walk)) ≡ end_of l.from (steps_of l.world l.walk);
  cost : l.all.cost + (total l.hop (steps_of l.world (drop l.exit-index l.walk))).cost ≡ (total l.hop
      (steps_of l.world l.walk)).cost;
  exits : l.all.exits + (total l.hop (steps_of l.world (drop l.exit-index l.walk))).exits ≡ (total l.hop
      (steps_of l.world l.walk)).exits;
  low : l.all.cost ≤ l.exit-index * 2 ^ 32;
  few : l.all.exits ≤ l.exit-index;
}

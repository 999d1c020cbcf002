use Rattle.std.proofs.Common.{◌≡◌, map}
use Rattle.std.specs.List.{range_with_len}
use Rattle.mud_roads.specs.Passable.{roads_of}
use Rattle.mud_roads.specs.inner.Tables.{rows, Fit}
use Rattle.mud_roads.proofs.access.Access.roads.Given as goal

abbrev pub invariant-loop-room : goal.invariant-loop-room
invariant-loop-room l = record {
  fit : Fit 0 l.ends.items l.steps.items;
  rows : rows 0 l.ends.items l.steps.items ≡ map (roads_of l.world l.self.player) (range_with_len 0 l.room);
}

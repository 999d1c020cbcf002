use Rattle.std.proofs.Common.{drop}
use Rattle.mud_roads.specs.Passable.{roads_of}
use Rattle.mud_search.specs.Least.{label_in}
use Rattle.mud_guide.proofs.Lowest.{AreLeft}
use Rattle.mud_guide.proofs.arrivals.last_step.Given as goal

abbrev pub invariant-loop-exit : goal.invariant-loop-exit
invariant-loop-exit l =
    AreLeft (roads_of l.world l.traveller.player) (label_in l.labels l.member) l.to (drop l.exit-index l.exit-items)

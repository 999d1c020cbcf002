use Rattle.std.proofs.Common.{◌≡◌, ◌++◌, List, Some}
use Rattle.mud_roads.specs.declared.label.Step.{Step}
use Rattle.mud_roads.specs.declared.label.Label.{Label}
use Rattle.mud_roads.specs.Walks.{RouteBack}
use Rattle.mud_roads.specs.Passable.{roads_of}
use Rattle.mud_search.specs.Least.{label_in}
use Rattle.mud_guide.proofs.Backs.{exits_at}
use Rattle.mud_guide.proofs.routing.walk_to.Given as goal

abbrev pub invariant-loop-arrival : goal.invariant-loop-arrival
invariant-loop-arrival l = record {
  reached : (k : Label) × (label_in l.labels l.member l.at ≡ Some k);
  goes : (more : List Step) → RouteBack 1 (roads_of l.world l.traveller.player) l.traveller.place l.at more
      → RouteBack 1 (roads_of l.world l.traveller.player) l.traveller.place l.to (l.steps.items ++ more);
}

abbrev pub decreases-loop-arrival : goal.decreases-loop-arrival
decreases-loop-arrival l = exits_at (label_in l.labels l.member l.at)

use Rattle.std.proofs.Common.{Option, subst, sym}
use Rattle.mud_roads.specs.declared.label.Label.{Label}
use Rattle.mud_roads.specs.Passable.{roads_of}
use Rattle.mud_roads.specs.Walks.{Least}
use Rattle.mud_search.proofs.alone.counted_for.Goals as goal

pub returns-clause-least : goal.returns-clause-least
returns-clause-least g c = λ m room t is.
    let P : Option Label → Type 0 = λ o. Least 1 (roads_of g.J.Job.world t.player) t.place room o in
    subst P (sym (c.into_labels.ensures.labels m room)) (c.finish_counted.ensures.least m room t is)

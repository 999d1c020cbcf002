use Rattle.std.proofs.Common.{Option, subst, sym}
use Rattle.mud_roads.specs.declared.label.Label.{Label}
use Rattle.mud_roads.specs.Passable.{roads_of}
use Rattle.mud_roads.specs.Walks.{Least}
use Rattle.mud_search.proofs.shared.together_for.Goals as goal

pub returns : goal.returns
returns g c = record {
  count = c.into_member_labels.ensures.count;
  least = λ m room t is.
      let P : Option Label → Type 0 = λ o. Least 1 (roads_of g.J.Job.world t.player) t.place room o in
      subst P (sym (c.into_member_labels.ensures.labels m room)) (c.finish_by.ensures m room t is);
  bounded = c.into_member_labels.ensures.bounded;
}

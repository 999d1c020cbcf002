-- The result for a part of a party.
use Rattle.std.specs.Prelude.{◌≡◌, List, Option, length}
use Rattle.mud_world.specs.State.{State}
use Rattle.mud_roads.specs.declared.label.Label.{Label}
use Rattle.mud_roads.specs.Passable.{Knowledge}
use Rattle.mud_search.specs.Least.{label_in, AreLeast, AreBounded}
use Rattle.mud_search.specs.Tables.{Table}
use Rattle.mud_search.specs.inner.Tables.{lists_in}

-- there is a list for each of these members, with its least labels, and no label is too great
pub record AreFound (w : State) (ts : List Knowledge) (labels : Table (Option Label)) : Type 0 where
  pub count : length (lists_in labels) ≡ length ts
  pub least : AreLeast w ts (label_in labels)
  pub bounded : AreBounded (label_in labels)

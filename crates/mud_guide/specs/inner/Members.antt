-- A member's line and way.
use Rattle.std.specs.Prelude.{ℕ, List, ◌∷◌, ◌++◌, codes, Option, Some}
use Rattle.mud_key.specs.declared.codes.TheConstants.{LF}
use Rattle.mud_guide.specs.Legs.{Leg}
use Rattle.mud_guide.specs.Texts.{object, way_text}
use Rattle.mud_roads.specs.declared.label.Step.{Step}
use Rattle.mud_roads.specs.Walks.{Roads}
use Rattle.mud_guide.specs.Ways.{IsWayTo}

-- a line of its own for each member: `  #1 from #0 cost 3 by #5`
abbrev pub member_text : Leg → List ℕ
member_text j = LF ∷ codes "  " ++ object j.player ++ codes " from " ++ object j.from ++ way_text j.way

-- the way to a room
abbrev pub IsWay : Roads → ℕ → ℕ → Option (List Step) → Type 0
IsWay roads from to way = IsWayTo roads from (Some to) way

-- Travellers, as walks see them.
use Rattle.mud_world.specs.State.{State}
use Rattle.mud_roads.specs.Walks.{Goer}
use Rattle.mud_roads.specs.Passable.{Knowledge, roads_of}

-- the traveller's roads, and its place
abbrev pub goer : State → Knowledge → Goer
goer w t = (roads_of w t.player, t.place)

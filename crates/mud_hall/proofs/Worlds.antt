-- The worlds of histories.
use Rattle.std.proofs.Common.{List, take}
use Rattle.mud_world.specs.Sound.{IsSound}
use Rattle.mud_world.proofs.Worlds.{worlds_law}
use Rattle.mud_roads.proofs.Walking.{walks_law}
use Rattle.mud_chron.specs.Entry.{Entry}
use Rattle.mud_chron.specs.Replay.{changes_of}
use Rattle.mud_hall.specs.Notices.{world_after}
use Rattle.mud_hall.specs.Laws.{WalksGo}

-- the world after a history is sound
pub world-sound : (h : List Entry) → IsSound (world_after h)
world-sound h = worlds_law (changes_of h)

pub walks_go : WalksGo
walks_go h v p from to ss player place walk =
    let w = world_after (take v h) in
    walks_law w (world-sound (take v h)) p from to ss player place walk

use Rattle.std.proofs.Common.{◌+◌, ◌*◌}
use Rattle.mud_key.proofs.Sizes.{size_of}
use Rattle.mud_key.specs.Node.{key_of as tree_of}
use Rattle.mud_world.proofs.Locked.{levels_of}
use Rattle.mud_world.proofs.world.World.+locks.Given as goal

abbrev pub decreases-is_unlocked_in : goal.decreases-is_unlocked_in
decreases-is_unlocked_in l = l.levels * 200

abbrev pub decreases-is_unlocked_by : goal.decreases-is_unlocked_by
decreases-is_unlocked_by l = levels_of l.asked * 200 + 150

abbrev pub decreases-is_true : goal.decreases-is_true
decreases-is_true l = levels_of l.asked * 200 + size_of (tree_of l.node.now)

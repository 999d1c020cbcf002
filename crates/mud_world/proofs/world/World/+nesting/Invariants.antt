use Rattle.std.proofs.Common.{◌+◌, ◌*◌}
use Rattle.mud_key.proofs.Sizes.{size_of}
use Rattle.mud_key.specs.Node.{key_of as tree_of}
use Rattle.mud_world.proofs.world.World.+nesting.Given as goal

abbrev pub decreases-nests_with : goal.decreases-nests_with
decreases-nests_with l = l.levels * 100 + size_of (tree_of l.node.now)

abbrev pub decreases-asked_nests_with : goal.decreases-asked_nests_with
decreases-asked_nests_with l = l.levels * 100 + 98

use Rattle.std.proofs.Common.{ap, arith}
use Rattle.mud_key.proofs.Sizes.{size_of, size_within}
use Rattle.mud_world.proofs.world.World.+locks.Goals as goal

pub is_unlocked_by-is_true-requires : goal.is_unlocked_by-is_true-requires
is_unlocked_by-is_true-requires t c =
    (omega (arith, c.decreases, size_within _ c.node.ensures.key.limits, ap size_of c.node.ensures.node), tt)

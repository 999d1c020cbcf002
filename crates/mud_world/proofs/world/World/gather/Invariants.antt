use Rattle.mud_world.proofs.Carrying.{Gathers}
use Rattle.mud_world.proofs.world.World.gather.Given as goal

-- the contents of the first i objects found were visited
abbrev pub invariant-loop-i : goal.invariant-loop-i
invariant-loop-i l = Gathers l.self l.candidate l.found.items l.i

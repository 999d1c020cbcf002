use Rattle.std.proofs.Common.{◌≡◌, take}
use Rattle.mud_world.proofs.slots.Slots.copy.Given as goal

-- the slots so far are copied
abbrev pub invariant-loop-slot : goal.invariant-loop-slot
invariant-loop-slot l = l.slots.items ≡ take l.slot-index l.slot-items

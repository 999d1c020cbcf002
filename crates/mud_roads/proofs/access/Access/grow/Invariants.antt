use Rattle.std.proofs.Common.{◌≡◌, ◌++◌, ◌-◌, ◌≤◌, length, map}
use Rattle.std.specs.List.{range_with_len}
use Rattle.mud_world.specs.State.{unlocked}
use Rattle.mud_roads.proofs.access.Access.grow.Given as goal

-- the objects below the number are known
abbrev pub invariant-loop-number : goal.invariant-loop-number
invariant-loop-number l =
    let known = length l.initial.self.marks.items in
    (l.self.player ≡ l.initial.self.player)
    × (known ≤ l.number)
    × (l.world.next ≤ known → l.number ≡ known)
    × (l.self.marks.items
    ≡ l.initial.self.marks.items
    ++ map (unlocked l.world l.initial.self.player) (range_with_len known (l.number - known)))

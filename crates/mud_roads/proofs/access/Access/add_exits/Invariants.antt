use Rattle.std.proofs.Common.{◌≡◌, ℕ, ◌++◌, ◌-◌, ◌<◌, ◌≤◌, [], length, get_or}
use Rattle.std.specs.List.{filter_map, range_with_len}
use Rattle.mud_roads.specs.inner.Growing.{step_from, is_marked}
use Rattle.mud_roads.proofs.access.Access.add_exits.Given as goal

-- the steps of the exits below the number are in their rows
abbrev pub invariant-loop-number : goal.invariant-loop-number
invariant-loop-number l =
    (l.from ≤ l.number)
    × (l.world.next ≤ l.from → l.number ≡ l.from)
    × (length l.roads ≡ length l.initial.roads)
    × ((room : ℕ) → room < length l.initial.roads
    → get_or l.roads room []
    ≡ get_or l.initial.roads room []
    ++ filter_map (step_from l.world (is_marked l.self.marks.items) room) (range_with_len l.from (l.number - l.from)))

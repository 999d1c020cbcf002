-- Walks that are given by exit numbers, as the tests follow them. Everything is defined for any numbers: a number that
-- is not an exit gives a step to #0 at no cost, but leaves no room and is open to no player.
use Rattle.std.specs.Prelude.{ℕ, List, [], ◌∷◌, map, Option, None, Some}
use Rattle.std.specs.Option.{option_map_or}
use Rattle.mud_roads.specs.declared.label.Step.{Step}
use Rattle.mud_roads.specs.Walks.{total}
use Rattle.mud_roads.specs.Passable.{step_by}
use Rattle.mud_world.specs.State.{State, passage_of}
use Rattle.mud_cert.specs.Certificate.{Account}

-- the step of exit x
abbrev pub step_of : State → ℕ → Step
step_of w x = option_map_or (step_by x) (passage_of w x) (record { exit = x; to = 0; cost = 0 })

-- the steps of the exits, in order
abbrev pub steps_of : State → List ℕ → List Step
steps_of w xs = map (step_of w) xs

-- the room where steps from a room lead
abbrev pub end_of : ℕ → List Step → ℕ
end_of at [] = at
end_of at (s ∷ ss) = end_of s.to ss

-- the end and the cost of a walk from the room, if one is given
abbrev pub arrival : State → ℕ → Option (List ℕ) → Option (ℕ × ℕ)
arrival w from None = None
arrival w from (Some walk) =
    let ss = steps_of w walk in
    Some (end_of from ss, (total 0 ss).cost)

-- the end and the cost of the member's walk, if one is given
abbrev pub arrival_of : State → Account → Option (ℕ × ℕ)
arrival_of w m = arrival w m.from m.walk

-- The world of a history.
use Rattle.std.specs.Prelude.{List, [], ◌∷◌, is_none, if◌then◌else◌}
use Rattle.mud_world.specs.State.{State}
use Rattle.mud_world.specs.Opening.{opening_state}
use Rattle.mud_world.specs.Legal.{refusal, after}
use Rattle.mud_world.specs.declared.change.Change.{Change}

-- the world after a change; an illegal change has no effect
abbrev pub step_or_same : State → Change → State
step_or_same w e = if is_none (refusal w e) then after w e else w

-- the world after these changes
abbrev pub world_from : State → List Change → State
world_from w [] = w
world_from w (e ∷ changes) = world_from (step_or_same w e) changes

-- the world of a history: the initial world after the changes in order
abbrev pub world_of : List Change → State
world_of changes = world_from opening_state changes

-- A history with one change more.
use Rattle.std.proofs.Common.{◌≡◌, List, [], ◌∷◌, ◌++◌, None, refl, ap, ◌∙◌}
use Rattle.std.specs.Prelude.{is_none, if◌then◌else◌}
use Rattle.mud_world.specs.State.{State}
use Rattle.mud_world.specs.Opening.{opening_state}
use Rattle.mud_world.specs.Legal.{refusal, after}
use Rattle.mud_world.specs.History.{world_from, world_of}
use Rattle.mud_world.specs.History.{step_or_same}
use Rattle.mud_world.specs.declared.change.Change.{Change}

pub world_from-push : (w : State) (changes : List Change) (e : Change)
    → world_from w (changes ++ e ∷ []) ≡ step_or_same (world_from w changes) e
world_from-push w [] e = refl
world_from-push w (c ∷ changes) e = world_from-push (step_or_same w c) changes e

-- one more change
pub world_of-push : (changes : List Change) (e : Change)
    → world_of (changes ++ e ∷ []) ≡ step_or_same (world_of changes) e
world_of-push changes e = world_from-push opening_state changes e

-- one more change that is legal
pub world_of-legal : (changes : List Change) (e : Change) → refusal (world_of changes) e ≡ None
    → world_of (changes ++ e ∷ []) ≡ after (world_of changes) e
world_of-legal changes e legal = world_of-push changes e
    ∙ ap (λ o. if is_none o then after (world_of changes) e else world_of changes) legal

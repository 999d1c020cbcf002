-- The world of a history is sound.
use Rattle.std.proofs.Common.{◌≡◌, List, [], ◌∷◌, Option, None, Some, refl, ap}
use Rattle.std.specs.Prelude.{is_none, if◌then◌else◌}
use Rattle.mud_world.specs.State.{State}
use Rattle.mud_world.specs.Sound.{IsSound}
use Rattle.mud_world.specs.Legal.{refusal, after}
use Rattle.mud_world.specs.Laws.{WorldsAreSound}
use Rattle.mud_world.specs.History.{world_from}
use Rattle.mud_world.specs.History.{step_or_same}
use Rattle.mud_world.specs.Opening.{opening_state}
use Rattle.mud_world.specs.declared.change.Change.{Change}
use Rattle.mud_world.specs.declared.refusal.Refusal.{Refusal}
use Rattle.mud_world.proofs.Begun.{opening-sound}
use Rattle.mud_world.proofs.Sounding.{soundness_law}

-- a legal change is applied
pub stepped-legal : (w : State) (e : Change) → refusal w e ≡ None → step_or_same w e ≡ after w e
stepped-legal w e legal = ap (λ o. if is_none o then after w e else w) legal

-- a step leaves a sound world sound
pub step-sound : (w : State) (e : Change) (o : Option Refusal) → refusal w e ≡ o → IsSound w
    → IsSound (step_or_same w e)
step-sound w e None is sound = rw is (soundness_law w e sound is)
step-sound w e (Some f) is sound = rw is sound

from-sound : (w : State) (es : List Change) → IsSound w → IsSound (world_from w es)
from-sound w [] sound = sound
from-sound w (e ∷ es) sound = from-sound (step_or_same w e) es (step-sound w e (refusal w e) refl sound)

pub worlds_law : WorldsAreSound
worlds_law changes = from-sound opening_state changes opening-sound

-- The order in which one thread finishes rooms.
use Rattle.std.specs.Prelude.{◌≡◌, ℕ, Bool, true, false}
use Rattle.mud_roads.specs.declared.label.Label.{Label}
use Rattle.mud_roads.specs.Walks.{AtMost}
use Rattle.mud_search.specs.declared.slot.Slot.{Slot}
use Rattle.mud_search.specs.declared.slot.Slot.TheVariants.{Waiting, Held, Finished}

-- true unless it is finished
abbrev pub is_unfinished : Slot → Bool
is_unfinished (Finished l) = false
is_unfinished slot = true

-- no room is held, and no member has a finished room with a greater label than a waiting one
pub record IsInOrder (slots : ℕ → ℕ → Slot) : Type 0 where
  pub none_held : (m room : ℕ) (l : Label) → slots m room ≡ Held l → ⊥
  pub sorted : (m room other : ℕ) (l k : Label) → slots m room ≡ Finished l → slots m other ≡ Waiting k → AtMost l k

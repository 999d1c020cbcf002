-- The derivation of labels, by which no label is too great.
use Rattle.std.specs.Prelude.{◌≡◌, ℕ, Bool, false, nat_eq, List, [], ◌∷◌, Option, Some, Contains}
use Rattle.std.specs.List.{list_any}
use Rattle.mud_roads.specs.declared.label.Label.{Label}
use Rattle.mud_roads.specs.declared.label.Step.{Step}
use Rattle.mud_roads.specs.Walks.{Roads, after, total}
use Rattle.mud_roads.specs.Labels.{start_label, Reaches}
use Rattle.mud_search.specs.declared.slot.Slot.{Slot}
use Rattle.mud_search.specs.declared.slot.Slot.TheVariants.{Finished}
use Rattle.mud_search.specs.Slots.{labels_of}

-- the rooms that a walk visits, read from its end
abbrev pub rooms_of_walk : ℕ → List Step → List ℕ
rooms_of_walk from [] = from ∷ []
rooms_of_walk from (s ∷ ss) = s.to ∷ rooms_of_walk from ss

-- the list contains the room
abbrev pub is_in : ℕ → List ℕ → Bool
is_in q rs = list_any (nat_eq q) rs

-- a walk, read from its end, that visits no room twice, and no room with less than its label
abbrev pub Trail : Roads → (ℕ → Option Label) → ℕ → List Step → ℕ → Type 0
Trail roads labels from [] to = from ≡ to
Trail roads labels from (s ∷ ss) to =
    (s.to ≡ to) × (is_in s.to (rooms_of_walk from ss) ≡ false) × Reaches labels s.to (total 1 (s ∷ ss))
    × ((by : ℕ) × Contains (roads by) s × Trail roads labels from ss by)

-- the label is that of such a walk
abbrev pub IsWalked : Roads → (ℕ → Option Label) → ℕ → ℕ → Label → Type 0
IsWalked roads labels from to l = (ss : List Step) × Trail roads labels from ss to × (total 1 ss ≡ l)

-- every label is that of such a walk; the start is labelled 0; a step out of a finished room leads to no greater label
-- than the one after the step
pub record IsTraced (roads : Roads) (from : ℕ) (slots : ℕ → Slot) : Type 0 where
  pub walked : (room : ℕ) (l : Label) → labels_of slots room ≡ Some l → IsWalked roads (labels_of slots) from room l
  pub start : labels_of slots from ≡ Some start_label
  pub finished : (room : ℕ) (l : Label) (s : Step) → slots room ≡ Finished l → Contains (roads room) s
      → Reaches (labels_of slots) s.to (after 1 l s)

-- Valid labels, which prove that a walk is least.
use Rattle.std.specs.Prelude.{◌≡◌, ℕ, Contains, Option, Some}
use Rattle.mud_roads.specs.declared.label.Label.{Label}
use Rattle.mud_roads.specs.declared.label.Step.{Step}
use Rattle.mud_roads.specs.Walks.{Roads, AtMost, after}

-- the label of the start: cost 0 and no exits
abbrev pub start_label : Label
start_label = record { cost = 0; exits = 0 }

-- the room has a label that is at most this one
abbrev pub Reaches : (ℕ → Option Label) → ℕ → Label → Type 0
Reaches labels room l = (k : Label) × (labels room ≡ Some k) × AtMost k l

-- the start is labelled 0, and a step out of a labelled room leads to a label that is at most the label after it
pub record AreValid (hop : ℕ) (roads : Roads) (from : ℕ) (labels : ℕ → Option Label) : Type 0 where
  pub start : labels from ≡ Some start_label
  pub steps : (room : ℕ) (l : Label) (s : Step) → labels room ≡ Some l → Contains (roads room) s
      → Reaches labels s.to (after hop l s)

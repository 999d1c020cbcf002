-- Marks for numbers.
use Rattle.std.specs.Prelude.{ℕ, Bool, true, List, [], ◌∷◌, slice_set}

-- the marks after these numbers were marked
abbrev pub mark_all : List ℕ → List Bool → List Bool
mark_all [] marks = marks
mark_all (o ∷ os) marks = mark_all os (slice_set marks o true)

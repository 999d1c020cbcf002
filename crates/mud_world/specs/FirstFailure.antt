-- The first failure, counted from 1.
use Rattle.std.specs.Prelude.{◌≡◌, ℕ, ◌+◌}

-- the test holds before this place, and fails at this place
abbrev pub FailsAt : (ℕ → Type 0) → ℕ → Type 0
FailsAt IsSo place = (before : ℕ) × (place ≡ before + 1) × IsSo before × (IsSo place → ⊥)

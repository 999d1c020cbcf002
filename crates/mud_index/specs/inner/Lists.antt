-- Lists that have changed in part.
use Rattle.std.specs.Prelude.{◌≡◌, ◌⊎◌, IsTrue, ℕ, Bool, List}
use Rattle.mud_index.specs.Lists.{list_at}

-- some lists of the holders that pass the test may have been changed by f, and no others
abbrev pub AreBetween : (ℕ → Bool) → (List ℕ → List ℕ) → List (ℕ × List ℕ) → List (ℕ × List ℕ) → Type 0
AreBetween test f old new =
    (n : ℕ) → (list_at new n ≡ list_at old n) ⊎ (IsTrue (test n) × (list_at new n ≡ f (list_at old n)))

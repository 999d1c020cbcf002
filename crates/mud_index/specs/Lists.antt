-- A list for each number.
use Rattle.std.specs.Prelude.{◌≡◌, ℕ, Bool, List, [], nat_eq, if◌then◌else◌}
use Rattle.std.specs.Option.{unwrap_or}
use Rattle.std.specs.Map.{lookup}

-- the list of holder n
abbrev pub list_at : List (ℕ × List ℕ) → ℕ → List ℕ
list_at lists n = unwrap_or (lookup (nat_eq n) lists) []

-- each number has the same list in both
abbrev pub AreSame : List (ℕ × List ℕ) → List (ℕ × List ℕ) → Type 0
AreSame old new = (n : ℕ) → list_at new n ≡ list_at old n

-- exactly the lists of the holders that pass the test are changed by f
abbrev pub AreChanged : (ℕ → Bool) → (List ℕ → List ℕ) → List (ℕ × List ℕ) → List (ℕ × List ℕ) → Type 0
AreChanged test f old new = (n : ℕ) → list_at new n ≡ (if test n then f (list_at old n) else list_at old n)

-- The numbers of objects, and sorted lists of numbers.
use Rattle.std.specs.Prelude.{ℕ, ◌+◌, ◌≤◌, List, [], ◌∷◌}
use Rattle.mud_key.specs.declared.limits.TheConstants.{LAST_NUMBER}
pub use Rattle.mud_index.specs.Rising.{insert, without}

-- the number of an object
abbrev pub IsNumber : ℕ → Type 0
IsNumber n = n ≤ LAST_NUMBER

-- the numbers are strictly increasing, from low on
abbrev pub IsRisingFrom : ℕ → List ℕ → Type 0
IsRisingFrom low [] = Unit {0}
IsRisingFrom low (x ∷ xs) = (low ≤ x) × IsRisingFrom (x + 1) xs

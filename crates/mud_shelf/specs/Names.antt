-- The names of volumes.
use Rattle.std.specs.Prelude.{◌≤◌, ◌<◌, ℕ, List, ◌++◌, codes, nat_eq, Contains, if◌then◌else◌}
use Rattle.std.specs.Fmt.{decimal}
use Rattle.mud_shelf.specs.declared.names.TheConstants.{MOST_VOLUMES}

-- a volume's number
abbrev pub IsVolume : ℕ → Type 0
IsVolume n = (1 ≤ n) × (n ≤ MOST_VOLUMES)

-- the name of a volume: of the first that of the journal, of a later one its number behind that
abbrev pub volume_name : List ℕ → ℕ → List ℕ
volume_name journal n = if nat_eq n 1 then journal else journal ++ codes "." ++ decimal n

-- one of the names is that of volume n
abbrev pub HasVolume : List ℕ → List (List ℕ) → ℕ → Type 0
HasVolume journal names n = IsVolume n × Contains names (volume_name journal n)

-- volume n is there, and none of a higher number
pub record IsLatest (journal : List ℕ) (names : List (List ℕ)) (n : ℕ) : Type 0 where
  pub there : HasVolume journal names n
  pub highest : (m : ℕ) → n < m → HasVolume journal names m → ⊥

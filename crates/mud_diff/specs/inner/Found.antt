-- The differences found so far.
use Rattle.std.specs.Prelude.{◌≡◌, ℕ, ◌<◌, ◌⊎◌, List, AllPairs, Contains}
use Rattle.mud_world.specs.State.{State}
use Rattle.mud_diff.specs.declared.difference.Difference.{Difference}
use Rattle.mud_diff.specs.Differences.{Differs, IsBefore, order}

-- before place k of number n
abbrev pub IsReached : Difference → ℕ → ℕ → Type 0
IsReached d n k = (d.number < n) ⊎ ((d.number ≡ n) × (order d.what < k))

-- exactly the differences before place k of number n
pub record AreFound (old new : State) (n k : ℕ) (ds : List Difference) : Type 0 where
  pub those : (d : Difference) → Contains ds d → Differs old new d × IsReached d n k
  pub all : (d : Difference) → Differs old new d → IsReached d n k → Contains ds d
  pub ordered : AllPairs IsBefore ds

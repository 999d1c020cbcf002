-- A search for the first version with a given world.
use Rattle.std.specs.Prelude.{◌≡◌, ◌≢◌, ◌≤◌, ◌<◌, ℕ, Option, MatchOption}
use Rattle.mud_world.specs.State.{State}

-- the first version up to `most` with this world, among those below n, if there is one
pub record IsFirst (worlds : ℕ → State) (end : State) (most n version : ℕ) : Type 0 where
  pub below : version < n
  pub up_to : version ≤ most
  pub same : worlds version ≡ end
  pub least : (m : ℕ) → m < version → worlds m ≢ end

abbrev pub IsSearched : (ℕ → State) → State → ℕ → ℕ → Option ℕ → Type 0
IsSearched worlds end most n found =
    MatchOption found ((m : ℕ) → m < n → m ≤ most → worlds m ≢ end) (IsFirst worlds end most n)

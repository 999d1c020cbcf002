-- Parts of a party, which are computed separately.
use Rattle.std.specs.Prelude.{◌≡◌, ℕ, ◌+◌, ◌≤◌, List, map, length, Option, All}
use Rattle.mud_world.specs.State.{State}
use Rattle.mud_roads.specs.declared.label.Label.{Label}
use Rattle.mud_roads.specs.Passable.{Knowledge, IsTraveller}
use Rattle.mud_search.specs.Least.{AreLeast}
use Rattle.mud_world.specs.declared.limits.TheConstants.{MOST_PARTY}

-- these travellers are the players
abbrev pub AreTravellers : State → List ℕ → List Knowledge → Type 0
AreTravellers w players ts = All (IsTraveller w) ts × (map (λ t. t.player) ts ≡ players)

-- these are the members of a party from a number on, and each has its least labels
pub record AreMembers (w : State) (labels : ℕ → ℕ → Option Label) (first : ℕ) (ts : List Knowledge) : Type 0 where
  pub travellers : All (IsTraveller w) ts
  pub least : AreLeast w ts (λ m. labels (first + m))
  pub few : first + length ts ≤ MOST_PARTY

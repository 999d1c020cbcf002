-- Reach.
use Rattle.std.specs.Prelude.{◌≡◌, ℕ, ◌<◌, Bool, ◌⊎◌, Some, IsTrue}
use Rattle.std.proofs.Common.{suc}
use Rattle.mud_world.specs.State.{State, place_of, follow, is_thing}
use Rattle.mud_world.specs.inner.Reach.{arrives}

-- following places from o, passing only things, arrives at the actor or at the actor's room
pub record InReach (w : State) (actor o : ℕ) : Type 0 where
  -- the number of things that are passed
  pub passed : ℕ
  pub last : ℕ
  pub follows : follow w (suc passed) o ≡ Some last
  pub here : (last ≡ actor) ⊎ (place_of w actor ≡ Some last)
  pub things : (k p : ℕ) → k < passed → follow w (suc k) o ≡ Some p → IsTrue (is_thing w p)

-- `InReach` as a test. A reader need not look into this: the law `laws::reach` says that they agree in sound worlds
abbrev pub in_reach : State → ℕ → ℕ → Bool
in_reach w actor o = arrives w w.next actor o

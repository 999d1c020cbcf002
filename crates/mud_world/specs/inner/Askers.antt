-- Questions of keys, followed upwards from an object to those that ask about it.
use Rattle.std.specs.Prelude.{ℕ, Bool, true, List}
use Rattle.std.proofs.Common.{zero, suc}
use Rattle.std.specs.List.{list_any}
use Rattle.mud_world.specs.State.{State, numbers_with}
use Rattle.mud_world.specs.inner.Edits.{asked_by}

-- the objects whose keys ask about o, sorted
abbrev pub askers_of : State → ℕ → List ℕ
askers_of w o = numbers_with (λ r. asked_by o r.key) w

-- a chain of n questions leads to o
abbrev pub climbs : State → ℕ → ℕ → Bool
climbs w zero o = true
climbs w (suc n) o = list_any (climbs w n) (askers_of w o)

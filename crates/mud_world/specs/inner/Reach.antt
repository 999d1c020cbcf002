-- The end of following places.
use Rattle.std.specs.Prelude.{ℕ, Bool, false, ◌&&◌, ◌||◌, nat_eq}
use Rattle.std.proofs.Common.{zero, suc}
use Rattle.std.specs.Option.{option_map_or}
use Rattle.mud_world.specs.State.{State, place_of, is_thing, is_number}

-- true if following passes fewer than n things before it arrives; no chain of places is longer than there are numbers
abbrev pub arrives : State → ℕ → ℕ → ℕ → Bool
arrives w zero actor o = false
arrives w (suc n) actor o =
    option_map_or (λ p. nat_eq p actor || is_number p (place_of w actor) || (is_thing w p && arrives w n actor p))
    (place_of w o) false

-- Tests that the conditions of changes use.
use Rattle.std.specs.Prelude.{ℕ, Bool, false, ◌&&◌, ◌||◌, nat_eq}
use Rattle.std.specs.Option.{option_map_or}
use Rattle.mud_world.specs.declared.change.Target.{Target}
use Rattle.mud_world.specs.declared.change.Target.TheVariants.{New, Old}
use Rattle.mud_world.specs.State.{State, record_at, is_thing, is_player, place_of, is_number}
use Rattle.mud_world.specs.Reach.{in_reach}

-- the actor owns object n, or is the wizard, #1
abbrev pub owns : State → ℕ → ℕ → Bool
owns w actor n = nat_eq actor 1 || option_map_or (λ r. nat_eq actor r.owner) (record_at w n) false

-- the object is in the actor's room
abbrev pub shares_room : State → ℕ → ℕ → Bool
shares_room w actor o = option_map_or (λ room. is_number room (place_of w o)) (place_of w actor) false

-- the actor may put something into it: it is the actor, the actor's room, a thing in reach, or a player in that room
abbrev pub is_offered : State → ℕ → ℕ → Bool
is_offered w actor to =
    nat_eq to actor || is_number to (place_of w actor) || (is_thing w to && in_reach w actor to)
    || (is_player w to && shares_room w actor to)

-- the target is an existing room that passes the test
abbrev pub of_old : Target → (ℕ → Bool) → Bool
of_old (New names) test = false
of_old (Old room) test = test room

-- Notices: the lines by which players hear of the changes of others, as bytes.
use Rattle.std.specs.Prelude.{ℕ, nat_eq, false, List, ◌++◌, codes, decimal, Option, Some, None, if◌then◌else◌}
use Rattle.std.specs.Option.{option_map_or, option_or}
use Rattle.mud_world.specs.declared.change.Change.{Change}
use Rattle.mud_world.specs.declared.change.Deed.{Deed}
use Rattle.mud_world.specs.declared.change.Deed.TheVariants.{Move, Walk, Player, Say, Emote}
use Rattle.mud_world.specs.State.{State, place_of, is_number, is_thing, destination_of}
use Rattle.mud_rules.specs.ObjectLists.{first_name}

-- the notice, if player p is in that room
abbrev pub heard_in : State → ℕ → Option ℕ → List ℕ → Option (List ℕ)
heard_in w p room line = if option_map_or (λ r. is_number r (place_of w p)) room false then Some line else None

-- A does something with T
abbrev pub sentence : State → ℕ → List ℕ → ℕ → List ℕ → List ℕ
sentence w actor does thing end = first_name w actor ++ does ++ first_name w thing ++ end

-- the notice that thing T goes from A to A itself, to A's room, to a thing Y, to the hearer, or to another player Y
abbrev pub moved_line : State → ℕ → ℕ → ℕ → ℕ → List ℕ
moved_line w p actor thing to =
    if nat_eq to actor then sentence w actor (codes " takes ") thing (codes ".")
    else if is_number to (place_of w actor) then sentence w actor (codes " drops ") thing (codes ".")
    else (if is_thing w to then sentence w actor (codes " puts ") thing (codes " in " ++ first_name w to ++ codes ".")
    else (if nat_eq to p then sentence w actor (codes " gives ") thing (codes " to you.")
    else sentence w actor (codes " gives ") thing (codes " to " ++ first_name w to ++ codes ".")))

-- a walk is heard in the room that the actor leaves, else in the one that the actor enters; a new player is in #0
abbrev pub heard_deed : State → ℕ → ℕ → Deed → Option (List ℕ)
heard_deed w p actor (Say text) =
    heard_in w p (place_of w actor) (first_name w actor ++ codes " says, \"" ++ text ++ codes "\"")
heard_deed w p actor (Emote text) = heard_in w p (place_of w actor) (first_name w actor ++ codes " " ++ text)
heard_deed w p actor (Move thing to) = heard_in w p (place_of w actor) (moved_line w p actor thing to)
heard_deed w p actor (Walk exit) =
    option_or (heard_in w p (place_of w actor) (sentence w actor (codes " leaves by ") exit (codes ".")))
    (heard_in w p (destination_of w exit) (first_name w actor ++ codes " arrives."))
heard_deed w p actor (Player name) = heard_in w p (Some 0) (name ++ codes " arrives.")
heard_deed w p actor deed = None

-- the notice of another's change to player p, given the world w before it
abbrev pub heard_line : State → Change → ℕ → Option (List ℕ)
heard_line w e p = if nat_eq p e.actor then None else heard_deed w p e.actor e.deed

-- a notice names the version of the change
abbrev pub notice_text : ℕ → List ℕ → List ℕ
notice_text n line = codes "(" ++ decimal n ++ codes ") " ++ line

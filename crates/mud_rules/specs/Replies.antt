-- Replies to accepted and refused lines, as bytes.
use Rattle.std.specs.Prelude.{ℕ, ◌+◌, nat_eq, List, [], ◌++◌, codes, decimal, Option, Some, None, unwrap_or}
use Rattle.std.specs.Prelude.{if◌then◌else◌}
use Rattle.std.specs.Option.{option_map_or}
use Rattle.mud_key.specs.Printed.{printed, by_text}
use Rattle.mud_world.specs.declared.change.Change.{Change}
use Rattle.mud_world.specs.declared.change.Deed.{Deed}
use Rattle.mud_world.specs.declared.change.Deed.TheVariants.{Dig, Make, Lock, Unlock, Move, Walk, Cost, Player, Rename}
use Rattle.mud_world.specs.declared.change.Deed.TheVariants.{Recycle, Say, Emote}
use Rattle.mud_world.specs.declared.change.Target.{Target}
use Rattle.mud_world.specs.declared.change.Target.TheVariants.{New, Old}
use Rattle.mud_world.specs.declared.change.Doors.{Doors}
use Rattle.mud_world.specs.declared.refusal.Refusal.{Refusal}
use Rattle.mud_world.specs.declared.refusal.Refusal.TheVariants.{NotUnderstood, NoSuch, Ambiguous, WrongKind, NotHere}
use Rattle.mud_world.specs.declared.refusal.Refusal.TheVariants.{Denied, BadName, NameTaken, BadKey, KeyNesting}
use Rattle.mud_world.specs.declared.refusal.Refusal.TheVariants.{BadCost, RecursiveMove, LockedExit, LockedRoom}
use Rattle.mud_world.specs.declared.refusal.Refusal.TheVariants.{LockedThing, InUse, WorldFull, PartyBad}
use Rattle.mud_world.specs.State.{State, place_of, is_number, is_thing, destination_of}

-- ---- refusals

abbrev pub refusal_text : Refusal → List ℕ
refusal_text NotUnderstood = codes "I couldn't understand that."
refusal_text NoSuch = codes "There is no such thing."
refusal_text Ambiguous = codes "Which one do you mean?"
refusal_text WrongKind = codes "That is the wrong kind of thing."
refusal_text NotHere = codes "That is not here."
refusal_text Denied = codes "That is not yours."
refusal_text BadName = codes "That text is not allowed."
refusal_text NameTaken = codes "That name is taken."
refusal_text BadKey = codes "That key is not understood."
refusal_text KeyNesting = codes "That key nests too deep."
refusal_text BadCost = codes "That cost is not allowed."
refusal_text RecursiveMove = codes "It can't hold itself."
refusal_text LockedExit = codes "That exit is locked."
refusal_text LockedRoom = codes "That place is locked."
refusal_text LockedThing = codes "That thing is locked."
refusal_text InUse = codes "That is in use."
refusal_text WorldFull = codes "The world is full."
refusal_text PartyBad = codes "That party is not allowed."

-- ---- accepted changes

-- the reply to a player who comes in, new or not
abbrev pub welcome_text : ℕ → List ℕ
welcome_text player = codes "welcome #" ++ decimal player

-- the exit n, and the exit back if there is one
abbrev pub exits_text : ℕ → Doors → List ℕ
exits_text n doors =
    option_map_or
    (λ names. codes "exit #" ++ decimal n ++ codes ", exit back #" ++ decimal (n + 1))
    doors.back (codes "exit #" ++ decimal n)

-- the reply to a dig, n being the next number
abbrev pub dug_text : ℕ → Target → Option Doors → List ℕ
dug_text n (New names) None = codes "room #" ++ decimal n
dug_text n (New names) (Some doors) = codes "room #" ++ decimal n ++ codes ", " ++ exits_text (n + 1) doors
dug_text n (Old room) None = []
dug_text n (Old room) (Some doors) = exits_text n doors

-- a move to the player itself, to the player's room, to a thing, or to another player
abbrev pub move_text : State → ℕ → ℕ → ℕ → List ℕ
move_text w actor thing to =
    if nat_eq to actor then codes "taken #" ++ decimal thing
    else if is_number to (place_of w actor) then codes "dropped #" ++ decimal thing
    else (if is_thing w to then codes "put #" ++ decimal thing ++ codes " in #" ++ decimal to
    else codes "gave #" ++ decimal thing ++ codes " to #" ++ decimal to)

abbrev pub deed_text : State → ℕ → Deed → List ℕ
deed_text w actor (Dig target doors) = codes "dug " ++ dug_text w.next target doors
deed_text w actor (Make names) = codes "made #" ++ decimal w.next
deed_text w actor (Player name) = welcome_text actor
deed_text w actor (Lock object key) = codes "locked #" ++ decimal object ++ codes " with " ++ printed (by_text key)
deed_text w actor (Unlock object) = codes "unlocked #" ++ decimal object
deed_text w actor (Move thing to) = move_text w actor thing to
deed_text w actor (Walk exit) =
    codes "went by #" ++ decimal exit ++ codes " to #" ++ decimal (unwrap_or (destination_of w exit) 0)
deed_text w actor (Cost exit cost) = codes "cost of #" ++ decimal exit ++ codes " is " ++ decimal cost
deed_text w actor (Rename object names) = codes "renamed #" ++ decimal object
deed_text w actor (Recycle object) = codes "recycled #" ++ decimal object
deed_text w actor (Say text) = codes "said"
deed_text w actor (Emote text) = codes "done"

-- the reply to an accepted change, in the world before it
abbrev pub reply_text : State → Change → List ℕ
reply_text w e = deed_text w e.actor e.deed

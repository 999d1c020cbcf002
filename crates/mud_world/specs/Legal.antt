-- The table of changes: the refusals of each. The table of `Results` has the effect of each.
use Rattle.std.specs.Prelude.{ℕ, Bool, true, false, not, ◌&&◌, ◌||◌, nat_eq, nat_lt, [], ◌∷◌, length, find, ◌+◌}
use Rattle.std.specs.Prelude.{Option, is_some}
use Rattle.std.specs.Option.{option_map_or}
use Rattle.mud_world.specs.declared.limits.TheConstants.{NUMBERS, MOST_COST}
use Rattle.mud_world.specs.declared.change.Change.{Change}
use Rattle.mud_world.specs.declared.change.Deed.{Deed}
use Rattle.mud_world.specs.declared.change.Deed.TheVariants.{Dig, Make, Lock, Unlock, Move, Walk, Cost, Player, Rename}
use Rattle.mud_world.specs.declared.change.Deed.TheVariants.{Recycle, Say, Emote}
use Rattle.mud_world.specs.declared.refusal.Refusal.{Refusal}
use Rattle.mud_world.specs.declared.refusal.Refusal.TheVariants.{NoSuch, WrongKind, NotHere, Denied, BadName, NameTaken}
use Rattle.mud_world.specs.declared.refusal.Refusal.TheVariants.{BadKey, KeyNesting, BadCost, RecursiveMove, LockedExit}
use Rattle.mud_world.specs.declared.refusal.Refusal.TheVariants.{LockedRoom, LockedThing, InUse, WorldFull}
pub use Rattle.mud_world.specs.Speech.{is_trimmed, is_speech}
pub use Rattle.mud_world.specs.Kinds.{kind_at, kind_costing, kind_needs}
pub use Rattle.mud_world.specs.Reach.{InReach, in_reach}
pub use Rattle.mud_world.specs.Conditions.{owns, shares_room, is_offered}
pub use Rattle.mud_world.specs.Conditions.{of_old}
pub use Rattle.mud_world.specs.Results.{with_record_changed, with_new}
pub use Rattle.mud_world.specs.Results.{new_record, new_exit, new_exits, dig_records, deed_result, after}
use Rattle.mud_world.specs.State.{State, exists, is_room, is_exit, is_thing, is_player, place_of, is_number, within}
use Rattle.mud_world.specs.State.{source_of}
use Rattle.mud_world.specs.State.{destination_of, unlocked, all_nest, is_taken}
use Rattle.std.specs.List.{list_any}
use Rattle.mud_key.specs.Tree.{objects_of, nots_of, atoms_of}
use Rattle.mud_key.specs.declared.limits.TheConstants.{MOST_OBJECTS, MOST_NOTS}
use Rattle.mud_world.specs.inner.Refusals.{refusals}

-- the refusal of an actor who is not a player of the world, for each kind of change except Player
abbrev pub actor_fails : State → ℕ → Refusal → Bool
actor_fails w actor NoSuch = not (exists w actor)
actor_fails w actor WrongKind = not (is_player w actor)
actor_fails w actor f = false

-- the other refusals of a deed, kind by kind; all except KeyNesting are about the world before it
abbrev pub deed_fails : State → ℕ → Deed → Refusal → Bool
deed_fails w actor (Dig target doors) NoSuch = of_old target (λ room. not (exists w room))
deed_fails w actor (Dig target doors) WrongKind = of_old target (λ room. not (is_room w room) || not (is_some doors))
deed_fails w actor (Dig target doors) WorldFull = nat_lt NUMBERS (w.next + length (dig_records w actor target doors))
deed_fails w actor (Make names) WorldFull = nat_lt NUMBERS (w.next + 1)
deed_fails w actor (Player name) NoSuch = not (nat_eq actor w.next)
deed_fails w actor (Player name) NameTaken = is_taken w actor (name ∷ [])
deed_fails w actor (Player name) WorldFull = nat_lt NUMBERS (w.next + 1)
deed_fails w actor (Lock object key) NoSuch = not (exists w object)
deed_fails w actor (Lock object key) WrongKind = is_player w object
deed_fails w actor (Lock object key) Denied = not (owns w actor object)
deed_fails w actor (Lock object key) BadKey =
    list_any (λ o. not (exists w o)) (atoms_of key)
    || (nat_lt MOST_OBJECTS (objects_of key) || nat_lt MOST_NOTS (nots_of key))
deed_fails w actor (Lock object key) KeyNesting = not (all_nest (deed_result w actor (Lock object key)))
deed_fails w actor (Unlock object) NoSuch = not (exists w object)
deed_fails w actor (Unlock object) WrongKind = is_player w object
deed_fails w actor (Unlock object) Denied = not (owns w actor object)
deed_fails w actor (Move thing to) NoSuch = not (exists w thing) || not (exists w to)
deed_fails w actor (Move thing to) WrongKind = not (is_thing w thing) || is_exit w to
deed_fails w actor (Move thing to) NotHere =
    not (in_reach w actor thing) || is_number to (place_of w thing) || not (is_offered w actor to)
deed_fails w actor (Move thing to) RecursiveMove = within w to thing
deed_fails w actor (Move thing to) LockedRoom = not (unlocked w thing to)
deed_fails w actor (Move thing to) LockedThing = not (unlocked w to thing)
deed_fails w actor (Walk exit) NoSuch = not (exists w exit)
deed_fails w actor (Walk exit) WrongKind = not (is_exit w exit)
deed_fails w actor (Walk exit) NotHere =
    not (option_map_or (λ room. is_number room (source_of w exit)) (place_of w actor) false)
deed_fails w actor (Walk exit) LockedExit = not (unlocked w actor exit)
deed_fails w actor (Walk exit) LockedRoom = not (option_map_or (unlocked w actor) (destination_of w exit) false)
deed_fails w actor (Cost exit cost) NoSuch = not (exists w exit)
deed_fails w actor (Cost exit cost) WrongKind = not (is_exit w exit)
deed_fails w actor (Cost exit cost) Denied = not (owns w actor exit)
deed_fails w actor (Cost exit cost) BadCost = nat_lt MOST_COST cost
deed_fails w actor (Rename object names) NoSuch = not (exists w object)
deed_fails w actor (Rename object names) Denied = not (owns w actor object)
deed_fails w actor (Rename object names) NameTaken = is_player w object && is_taken w object names
deed_fails w actor (Recycle object) NoSuch = not (exists w object)
deed_fails w actor (Recycle object) WrongKind = is_player w object
deed_fails w actor (Recycle object) Denied = not (owns w actor object)
deed_fails w actor (Recycle object) InUse = nat_eq object 0 || list_any (λ e. kind_needs object e.1.kind) w.objects
deed_fails w actor (Say text) BadName = not (is_speech text)
deed_fails w actor (Emote text) BadName = not (is_speech text)
deed_fails w actor deed f = false

-- true for the one deed whose actor is not a player yet
abbrev pub is_arrival : Deed → Bool
is_arrival (Player name) = true
is_arrival deed = false

-- the refusal's condition holds for the change
abbrev pub fails : State → Change → Refusal → Bool
fails w e f = (not (is_arrival e.deed) && actor_fails w e.actor f) || deed_fails w e.actor e.deed f

-- the least refusal whose condition holds. A reader need not look into this: the law `laws::refusals` characterizes it
unfoldable pub refusal : State → Change → Option Refusal
refusal w e = find (fails w e) refusals

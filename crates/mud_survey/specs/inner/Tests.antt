-- The tests of a survey, by number.
use Rattle.std.specs.Prelude.{ℕ, Bool, false, not, ◌&&◌, ◌||◌, nat_eq, List, Option, Some, None, if◌then◌else◌}
use Rattle.std.proofs.Common.{zero, suc}
use Rattle.std.specs.List.{list_any}
use Rattle.std.specs.Option.{option_map_or, option_and_then}
use Rattle.mud_key.specs.Tree.{Tree, atoms_of}
use Rattle.mud_world.specs.State.{State, exists, is_room, is_exit, is_thing, place_of, passage_of, leaving_of, key_of}
use Rattle.mud_survey.specs.inner.Marks.{mark_at}

-- a room that is not marked
abbrev pub is_unreached : State → List Bool → ℕ → Bool
is_unreached w comes n = is_room w n && not (mark_at comes n)

-- an exit that is not marked
abbrev pub is_unpassed : State → List Bool → ℕ → Bool
is_unpassed w passes n = is_exit w n && not (mark_at passes n)

-- the exit leads to the room
abbrev pub leads_to : State → ℕ → ℕ → Bool
leads_to w room y = option_map_or (λ b. nat_eq b.destination room) (passage_of w y) false

-- an exit, and none of those that leave where it leads leads back
abbrev pub is_one_way : State → ℕ → Bool
is_one_way w x =
    option_map_or (λ a. not (list_any (leads_to w a.source) (leaving_of w a.destination))) (passage_of w x) false

-- one of the objects of the key is gone
abbrev pub is_gone_in : State → Tree ℕ → Bool
is_gone_in w k = list_any (λ a. not (exists w a)) (atoms_of k)

-- the object has such a key
abbrev pub names_gone : State → ℕ → Bool
names_gone w n = option_map_or (is_gone_in w) (key_of w n) false

-- the object to which places lead from an object, past things only, and at most `fuel` of them
abbrev pub holder_from : State → ℕ → ℕ → Option ℕ
holder_from w zero o = None
holder_from w (suc n) o = option_and_then (λ p. if is_thing w p then holder_from w n p else Some p) (place_of w o)

-- a thing whose holder is not marked, and not one of these players
abbrev pub is_out_of_reach : State → List Bool → List ℕ → ℕ → Bool
is_out_of_reach w comes ps n =
    is_thing w n && not (option_map_or (λ h. mark_at comes h || list_any (nat_eq h) ps) (holder_from w w.next n) false)

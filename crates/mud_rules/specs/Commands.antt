-- The verdicts of the commands, given their objects and texts.
use Rattle.std.specs.Prelude.{ℕ, not, ◌||◌, List, [], length, nat_eq, nat_lt, Bool, Option, Some, None, is_none}
use Rattle.std.specs.Prelude.{unwrap_or, Result, if◌then◌else◌}
use Rattle.std.specs.Option.{option_map, option_map_or, option_and_then, option_zip}
use Rattle.std.specs.Result.{result_ok, result_map_both}
use Rattle.std.specs.List.{list_any, slice_split, position_or_len, before_first, after_first}
use Rattle.mud_key.specs.Tree.{Tree, Has}
use Rattle.mud_key.specs.Finds.{names_in, name_in, key_in}
use Rattle.mud_key.specs.Namer.{resolved}
use Rattle.mud_key.specs.declared.namer.Miss.{Miss}
use Rattle.mud_key.specs.declared.namer.Miss.TheVariants.{NoSuch as MissNoSuch}
use Rattle.mud_world.specs.declared.change.Deed.TheVariants.{Dig, Move, Make, Lock, Cost, Player, Rename}
use Rattle.mud_world.specs.declared.change.Target.{Target}
use Rattle.mud_world.specs.declared.change.Target.TheVariants.{New, Old}
use Rattle.mud_world.specs.declared.change.Doors.{Doors}
use Rattle.mud_world.specs.declared.refusal.Refusal.{Refusal}
use Rattle.mud_world.specs.declared.refusal.Refusal.TheVariants.{NoSuch, WrongKind, NotHere, BadName, BadKey, BadCost}
use Rattle.mud_world.specs.Refusals.{lesser, refused_if}
use Rattle.mud_world.specs.State.{State, exists, is_player, is_thing, named_player, place_of, within}
use Rattle.mud_world.specs.Conditions.{shares_room}
use Rattle.mud_world.specs.Reach.{in_reach}
use Rattle.mud_rules.specs.declared.digging.TheConstants.{BAR}
use Rattle.mud_rules.specs.declared.verdict.Verdict.{Verdict}
use Rattle.mud_rules.specs.declared.verdict.Verdict.TheVariants.{Become, Refused}
use Rattle.mud_rules.specs.Matches.{is_empty, number_in, object_number, local_match}
use Rattle.mud_rules.specs.Outcome.{outcome, does, does_read, object_meant, of_kind}

-- ---- players

-- become the player with that name, or else make a new one
abbrev pub connect_named : State → List ℕ → Verdict
connect_named w name =
    option_map_or Become (named_player w name) (outcome w None (record { actor = w.next; deed = Player name }))

-- connect NAME
abbrev pub connect : State → List ℕ → Verdict
connect w text = option_map_or (connect_named w) (name_in text) (Refused BadName)

-- ---- moving; the conditions of the change itself are not repeated

-- drop X: a thing that the player carries at any depth moves to the player's room
abbrev pub drop_down : State → ℕ → ℕ → Verdict
drop_down w p x = does w p (refused_if (not (within w x p)) NotHere) (Move x (unwrap_or (place_of w p) 0))

-- refusals 4 and 5, by their conditions
abbrev pub kind_then_here : Bool → Bool → Option Refusal
kind_then_here kind here = lesser (refused_if kind WrongKind) (refused_if here NotHere)

-- put X in Y: a thing moves into a thing in reach
abbrev pub put : State → ℕ → ℕ × ℕ → Verdict
put w p o = does w p (kind_then_here (not (is_thing w o.1)) (not (in_reach w p o.1))) (Move o.0 o.1)

-- give X to Y: a carried thing moves to a player in the room
abbrev pub give : State → ℕ → ℕ × ℕ → Verdict
give w p o =
    does w p
    (kind_then_here (not (is_player w o.1)) (not (within w o.0 p) || not (shares_room w p o.1)))
    (Move o.0 o.1)

-- ---- keys

-- the object that a name in a key text means to a player, if it exists; a line does not distinguish why it means none
abbrev pub near_named : State → ℕ → List ℕ → Result ℕ Miss
near_named w p name =
    result_map_both (λ n. n) (λ f. MissNoSuch) (of_kind (exists w) (object_meant NoSuch (local_match w p name)))

-- the key that a text means to a player, if it is a key text and each of its names means an existing object
abbrev pub key_meant : State → ℕ → List ℕ → Option (Tree ℕ)
key_meant w p text = option_and_then (λ key. result_ok (resolved (near_named w p) key)) (key_in text)

-- @lock X with K
abbrev pub lock : State → ℕ → ℕ → List ℕ → Verdict
lock w p x text = does_read w p BadKey (Has 0) (key_meant w p text) (Lock x)

-- ---- building

-- @create NAMES
abbrev pub create : State → ℕ → List ℕ → Verdict
create w p text = does_read w p BadName [] (names_in text) Make

-- @cost X is N, N being 1 to 9 digits
abbrev pub cost : State → ℕ → ℕ → List ℕ → Verdict
cost w p x text = does_read w p BadCost 0 (number_in text) (Cost x)

-- @rename X to NAMES
abbrev pub rename : State → ℕ → ℕ → List ℕ → Verdict
rename w p x text = does_read w p BadName [] (names_in text) (Rename x)

-- @dig NAMES: a room without exits
abbrev pub dig_room : State → ℕ → List ℕ → Verdict
dig_room w p text = does_read w p BadName [] (names_in text) (λ names. Dig (New names) None)

-- ---- digging exits

abbrev pub is_bar : ℕ → Bool
is_bar c = nat_eq c BAR

abbrev pub has_bar : List ℕ → Bool
has_bar text = nat_lt (position_or_len is_bar text) (length text)

-- a side of a bar is empty
abbrev pub has_empty_side : List ℕ → Bool
has_empty_side text = list_any is_empty (slice_split is_bar text)

-- an exit `NAMES`, or with an exit back `NAMES|NAMES`: a name contains no bar, so there is at most one
abbrev pub doors_in : List ℕ → Option Doors
doors_in text =
    if has_bar text then
    option_map (λ names. record { out = names.0; back = Some names.1 })
    (option_zip (names_in (before_first is_bar text)) (names_in (after_first is_bar text)))
    else option_map (λ out. record { out = out; back = None }) (names_in text)

-- `#n` is an existing room, and any other text is the names of a new one
abbrev pub target_in : List ℕ → Option Target
target_in text = option_map_or (λ n. Some (Old n)) (object_number text) (option_map New (names_in text))

-- exits to a room; blanks replace unreadable texts, as in `does_read`
abbrev pub dig_between : State → ℕ → Option Doors → Option Target → Verdict
dig_between w p doors target =
    does w p (refused_if (is_none doors || is_none target) BadName)
    (Dig (unwrap_or target (New [])) (Some (unwrap_or doors (record { out = []; back = None }))))

-- @dig N to T
abbrev pub dig_exits : State → ℕ → List ℕ → List ℕ → Verdict
dig_exits w p doors target = dig_between w p (doors_in doors) (target_in target)

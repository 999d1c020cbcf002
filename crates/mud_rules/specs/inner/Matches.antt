-- Matching, step by step.
use Rattle.std.specs.Prelude.{ℕ, Bool, ◌&&◌, nat_lt, List, length, filter}
use Rattle.std.specs.Prelude.{codes, Option, Some, None, ok_or, Result, Ok, Err, if◌then◌else◌}
use Rattle.std.specs.Option.{option_map_or}
use Rattle.std.specs.List.{list_any}
use Rattle.std.specs.Str.{str_eq_ignore_ascii_case}
use Rattle.mud_world.specs.State.{State, has, exists, is_room, is_player, place_of}
use Rattle.mud_rules.specs.declared.matching.Likeness.{Likeness}
use Rattle.mud_rules.specs.declared.matching.Likeness.TheVariants.{Equal, Prefix}
use Rattle.mud_rules.specs.declared.matching.Match.{Match}
use Rattle.mud_rules.specs.declared.matching.Match.TheVariants.{Nothing, NoSuch, Ambiguous}
use Rattle.mud_rules.specs.declared.matching.Sort.{Sort}
use Rattle.mud_rules.specs.declared.matching.Sort.TheVariants.{Rooms, Players}
use Rattle.mud_rules.specs.Matches.{is_empty, is_like, sole, object_number}

-- the meaning of a text that does not depend on candidates
abbrev pub direct_match : State → ℕ → List ℕ → Option (Result ℕ Match)
direct_match w player text =
    if is_empty text then Some (Err Nothing)
    else option_map_or (λ n. Some (if exists w n then Ok n else Err NoSuch)) (object_number text) (
    if str_eq_ignore_ascii_case text (codes "me") then Some (Ok player)
    else if str_eq_ignore_ascii_case text (codes "here") then Some (ok_or (place_of w player) NoSuch)
    else None)

-- a text is a whole name, or a proper prefix of one
abbrev pub fits : Likeness → List ℕ → List ℕ → Bool
fits Equal = is_like Equal
fits Prefix = λ text name. nat_lt (length text) (length name) && is_like Prefix text name

-- object n has a name that passes the test
abbrev pub is_named : (List ℕ → Bool) → State → ℕ → Bool
is_named test w n = has w n (λ r. list_any test r.names)

-- the single candidate with a name that fits
abbrev pub sole_fit : Likeness → State → List ℕ → List ℕ → Result ℕ Match
sole_fit likeness w text candidates = sole (filter (is_named (fits likeness text) w) candidates)

-- the combined result of two lists of candidates
abbrev pub together : Result ℕ Match → Result ℕ Match → Result ℕ Match
together (Err NoSuch) second = second
together first (Err NoSuch) = first
together first second = Err Ambiguous

abbrev pub is_sort : Sort → State → ℕ → Bool
is_sort Rooms w n = is_room w n
is_sort Players w n = is_player w n

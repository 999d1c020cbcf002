-- Matching: the object that a text means.
use Rattle.std.specs.Prelude.{ℕ, ◌+◌, ◌-◌, ◌*◌, Bool, ◌&&◌, nat_eq, nat_lt, List, [], ◌∷◌, ◌++◌, length, take, nat_le}
use Rattle.std.specs.Prelude.{filter, codes, Option, Some, None, ok_or, Result, Ok, Err, if◌then◌else◌}
use Rattle.std.specs.Option.{option_map_or}
use Rattle.std.specs.List.{list_any, list_all, fold, range_with_len}
use Rattle.std.specs.Char.{is_ascii_digit}
use Rattle.std.specs.Str.{str_eq_ignore_ascii_case}
use Rattle.mud_key.specs.declared.codes.TheConstants.{SHARP, ZERO}
use Rattle.mud_key.specs.declared.limits.TheConstants.{MOST_DIGITS}
pub use Rattle.mud_words.specs.Laws.{is_empty}
use Rattle.mud_world.specs.State.{State, has, exists, place_of, contents_of, leaving_of}
use Rattle.mud_rules.specs.declared.matching.Likeness.{Likeness}
use Rattle.mud_rules.specs.declared.matching.Likeness.TheVariants.{Equal, Prefix}
use Rattle.mud_rules.specs.declared.matching.Match.{Match}
use Rattle.mud_rules.specs.declared.matching.Match.TheVariants.{Nothing, NoSuch, Ambiguous}

-- the text is the name, or a prefix of it, ignoring ASCII case
abbrev pub is_like : Likeness → List ℕ → List ℕ → Bool
is_like Equal text name = str_eq_ignore_ascii_case text name
is_like Prefix text name = str_eq_ignore_ascii_case text (take (length text) name)

-- ---- candidates

-- one object found is the answer, and several are ambiguous
abbrev pub sole : List ℕ → Result ℕ Match
sole [] = Err NoSuch
sole (n ∷ []) = Ok n
sole (n ∷ m ∷ ns) = Err Ambiguous

-- the single candidate with a name that is like the text
abbrev pub sole_like : Likeness → State → List ℕ → List ℕ → Result ℕ Match
sole_like likeness w text candidates =
    sole (filter (λ n. has w n (λ r. list_any (is_like likeness text) r.names)) candidates)

-- the first answer, or the second if the first finds none
abbrev pub or_else : Result ℕ Match → Result ℕ Match → Result ℕ Match
or_else (Err NoSuch) second = second
or_else first second = first

-- ---- numbers

-- the number that a text of decimal digits denotes, after the digits of `start`
abbrev pub digits_value : ℕ → List ℕ → Option ℕ
digits_value start text =
    if list_all is_ascii_digit text then Some (fold (λ value digit. value * 10 + (digit - ZERO)) start text) else None

-- 1 to 9 digits, as a number
abbrev pub number_in : List ℕ → Option ℕ
number_in text =
    if nat_lt 0 (length text) && nat_le (length text) MOST_DIGITS then digits_value 0 text else None

-- `#` and 1 to 9 digits, as a number
abbrev pub object_number : List ℕ → Option ℕ
object_number [] = None
object_number (c ∷ digits) = if nat_eq c SHARP then number_in digits else None

-- ---- texts

-- the object of a text: `#n`, `me`, `here`, the single candidate with that name, or whose name begins with it
abbrev pub match_with : State → ℕ → List ℕ → List ℕ → Result ℕ Match
match_with w player candidates text =
    if is_empty text then Err Nothing
    else option_map_or (λ n. if exists w n then Ok n else Err NoSuch) (object_number text) (
    if str_eq_ignore_ascii_case text (codes "me") then Ok player
    else if str_eq_ignore_ascii_case text (codes "here") then ok_or (place_of w player) NoSuch
    else or_else (sole_like Equal w text candidates) (sole_like Prefix w text candidates))

-- the contents of the player, the contents of the player's room, and the exits that leave it
abbrev pub candidates : State → ℕ → List ℕ
candidates w player =
    contents_of w player
    ++ option_map_or (λ room. contents_of w room ++ leaving_of w room) (place_of w player) []

-- the object that a text means to a player at its place
abbrev pub local_match : State → ℕ → List ℕ → Result ℕ Match
local_match w player text = match_with w player (candidates w player) text

-- the object that a text means, with all objects that pass the test as candidates
abbrev pub match_among : (ℕ → Bool) → State → ℕ → List ℕ → Result ℕ Match
match_among test w player text = match_with w player (filter test (range_with_len 0 w.next)) text

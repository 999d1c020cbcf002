-- The arguments of orders: numbers, and texts for players.
use Rattle.std.specs.Prelude.{ℕ, ◌^◌, ◌&&◌, nat_lt, nat_le, Bool, Option, None, Some, if◌then◌else◌, List, length}
use Rattle.std.specs.List.{list_all}
use Rattle.std.specs.Str.{all_ascii_digits}
use Rattle.std.specs.Str.Parse.{digits_value}
use Rattle.mud_console.specs.declared.texts.TheConstants.{MOST_TOLD}

-- the value of one or more decimal digits, if it is below 2 ^ 32
abbrev pub number_in : List ℕ → Option ℕ
number_in digits =
    let is_number = nat_lt 0 (length digits) && all_ascii_digits digits && nat_lt (digits_value 10 digits) (2 ^ 32) in
    if is_number then Some (digits_value 10 digits) else None

-- a byte of printable ASCII
abbrev pub is_printable : ℕ → Bool
is_printable b = nat_le 32 b && nat_le b 126

-- a text that can be announced
abbrev pub can_be_told : List ℕ → Bool
can_be_told text = nat_lt 0 (length text) && nat_le (length text) MOST_TOLD && list_all is_printable text

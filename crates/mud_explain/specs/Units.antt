-- The units of a Telnet stream, as text.
use Rattle.std.specs.Prelude.{ℕ, ◌+◌, ◌-◌, ◌/◌, ◌%◌, nat_lt, List, [], ◌∷◌, ◌++◌, codes, if◌then◌else◌}
use Rattle.std.specs.List.{flat_map}
use Rattle.mud_key.specs.declared.codes.TheConstants.{ZERO}
use Rattle.mud_nvt.specs.declared.codes.TheConstants.{SPACE}
use Rattle.mud_explain.specs.declared.units.TheConstants.{LETTER_A}
use Rattle.mud_nvt.specs.Units.{Given, Text, TooLong, Ayt, Answer}

-- a hexadecimal digit: 0 to 9, and A to F from ten on
abbrev pub hex_digit : ℕ → ℕ
hex_digit n = if nat_lt n 10 then ZERO + n else LETTER_A - 10 + n

-- the line of a unit; a byte is two hexadecimal digits after a space
abbrev pub unit_text : Given → List ℕ
unit_text (Text text) = codes "text " ++ text
unit_text TooLong = codes "too long"
unit_text Ayt = codes "ayt"
unit_text (Answer bytes) =
    codes "answer" ++ flat_map (λ b. SPACE ∷ hex_digit (b / 16) ∷ hex_digit (b % 16) ∷ []) bytes

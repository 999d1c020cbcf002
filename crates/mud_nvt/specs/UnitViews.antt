-- Units as a caller sees them: without the capacity or the address of a text.
use Rattle.std.specs.Prelude.{List, map}
use Rattle.std.specs.String.{string_bytes}
use Rattle.mud_nvt.specs.declared.Unit.{Unit as CodeUnit}
use Rattle.mud_nvt.specs.declared.Unit.TheVariants as code
use Rattle.mud_nvt.specs.Units.{Given, Text, TooLong, Ayt, Answer}

-- a unit as a caller sees it
abbrev pub unit_shown : {A : Type 0} → CodeUnit A → Given
unit_shown (code.Text text) = Text (string_bytes text)
unit_shown code.TooLong = TooLong
unit_shown code.Ayt = Ayt
unit_shown (code.Answer bytes) = Answer bytes

-- units as a caller sees them
abbrev pub all_shown : {A : Type 0} → List (CodeUnit A) → List Given
all_shown units = map unit_shown units

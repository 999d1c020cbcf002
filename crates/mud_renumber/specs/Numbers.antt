-- The new number of each old one.
use Rattle.std.specs.Prelude.{ℕ, List, get_or, ◌++◌, codes}
use Rattle.std.specs.List.{flat_map}
use Rattle.mud_key.specs.Printed.{number_text}
use Rattle.mud_world.specs.declared.limits.TheConstants.{NUMBERS}
use Rattle.mud_world.specs.State.{State}
use Rattle.mud_chron.specs.Text.{line_feed}
use Rattle.mud_renumber.specs.declared.numbers.Numbers.{Numbers}
use Rattle.mud_renumber.specs.declared.numbers.Numbers.TheVariants.{Same, Moved}

-- the number in the list for n; behind the list it is 8,192, which no object has
abbrev pub number_at : List ℕ → ℕ → ℕ
number_at numbers n = get_or numbers n NUMBERS

-- the new number of n
abbrev pub number_in : Numbers → ℕ → ℕ
number_in Same n = n
number_in (Moved numbers) n = number_at numbers.items n

-- the line of an object: its old number and its new one
abbrev pub map_row : ℕ → ℕ → List ℕ
map_row old new = number_text old ++ codes " " ++ number_text new ++ line_feed

-- a line for each object of the world, by rising numbers; f has the new ones
abbrev pub map_text : (ℕ → ℕ) → State → List ℕ
map_text f w = flat_map (λ e. map_row e.0 (f e.0)) w.objects

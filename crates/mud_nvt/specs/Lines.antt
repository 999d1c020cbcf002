-- The soundness of a line.
use Rattle.std.specs.Prelude.{length, ◌≤◌, All}
use Rattle.mud_nvt.specs.declared.TheConstants.{MOST}
use Rattle.mud_nvt.specs.declared.codes.TheConstants.{SPACE, TILDE}
use Rattle.mud_nvt.specs.Units.{Given, Text}

-- a line has at most 1,000 characters, each from the space to the tilde
abbrev pub IsSound : Given → Type 0
IsSound (Text text) = All (λ c. (SPACE ≤ c) × (c ≤ TILDE)) text × (length text ≤ MOST)
IsSound other = Unit {0}

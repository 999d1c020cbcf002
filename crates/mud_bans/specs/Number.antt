-- Decimal numbers.
use Rattle.std.specs.Prelude.{ℕ, ◌<◌, ◌^◌, List}
use Rattle.std.specs.Net.Grammar.{IsNumber as IsNumberBy}

-- decimal digits with this value, which is below 2 ^ 32
abbrev pub IsNumber : List ℕ → ℕ → Type 0
IsNumber digits n = IsNumberBy 10 digits n × (n < 2 ^ 32)

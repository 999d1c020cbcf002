-- Laws of the definitions.
use Rattle.std.specs.Prelude.{◌≡◌, ℕ, List, ◌∷◌, ◌++◌, Some}
use Rattle.mud_chron.specs.declared.codes.TheConstants.{QUOTE}
use Rattle.mud_map.specs.Quotes.{escape, read_quoted}

-- whatever follows the final quote, a reader of an escaped text gets the original text
abbrev pub IsReadAsMeant : Type 0
IsReadAsMeant = (text rest : List ℕ) → read_quoted (escape text ++ QUOTE ∷ rest) ≡ Some (text, rest)

-- Double-quoted texts, as DOT reads them in labels and tooltips.
use Rattle.std.specs.Prelude.{ℕ, nat_eq, ◌||◌, List, [], ◌∷◌, ◌++◌, codes, Option, Some, None, if◌then◌else◌}
use Rattle.std.specs.List.{flat_map}
use Rattle.std.specs.Option.{option_map, option_and_then}
use Rattle.mud_key.specs.declared.codes.TheConstants.{LF}
use Rattle.mud_chron.specs.declared.codes.TheConstants.{QUOTE}
use Rattle.mud_map.specs.declared.codes.TheConstants.{BACKSLASH, SMALL_N}

-- a byte with its escape: a backslash before a quote and a backslash, and `\n` for a line feed
abbrev pub escaped_byte : ℕ → List ℕ
escaped_byte byte =
    if nat_eq byte LF then codes "\\n" else
    if nat_eq byte QUOTE || nat_eq byte BACKSLASH then BACKSLASH ∷ byte ∷ [] else byte ∷ []

-- a text with its escapes
abbrev pub escape : List ℕ → List ℕ
escape text = flat_map escaped_byte text

-- a text in quotes
abbrev pub in_quotes : List ℕ → List ℕ
in_quotes text = codes "\"" ++ escape text ++ codes "\""

-- the meaning of a byte after a backslash; DOT gives other bytes meanings that are not bytes
abbrev pub meaning : ℕ → Option ℕ
meaning byte =
    if nat_eq byte SMALL_N then Some LF else if nat_eq byte QUOTE || nat_eq byte BACKSLASH then Some byte else None

-- a byte before the text that is read
abbrev pub before : ℕ → Option (List ℕ × List ℕ) → Option (List ℕ × List ℕ)
before byte read = option_map (λ p. (byte ∷ p.0, p.1)) read

-- the text from a quote to the next one, and the bytes after that
abbrev pub read_quoted : List ℕ → Option (List ℕ × List ℕ)
read_quoted [] = None
read_quoted (b ∷ []) = if nat_eq b QUOTE then Some ([], []) else None
read_quoted (b ∷ c ∷ bytes) =
    if nat_eq b QUOTE then Some ([], c ∷ bytes) else
    if nat_eq b BACKSLASH then option_and_then (λ m. before m (read_quoted bytes)) (meaning c) else
    before b (read_quoted (c ∷ bytes))

-- The parts of a text at its commas.
use Rattle.std.specs.Prelude.{ℕ, List, [], ◌∷◌, map, reverse, nat_eq, if◌then◌else◌}
use Rattle.std.specs.List.{slice_split}
use Rattle.mud_key.specs.declared.codes.TheConstants.{SPACE, COMMA}

-- the text without its leading spaces
abbrev pub without_leading_spaces : List ℕ → List ℕ
without_leading_spaces [] = []
without_leading_spaces (b ∷ text) = if nat_eq b SPACE then without_leading_spaces text else b ∷ text

-- the stretches between the commas of the text, each without the spaces at its ends
abbrev pub parts_of : List ℕ → List (List ℕ)
parts_of text =
    map (λ part. reverse (without_leading_spaces (reverse (without_leading_spaces part))))
    (slice_split (λ b. nat_eq b COMMA) text)

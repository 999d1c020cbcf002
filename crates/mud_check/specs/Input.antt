-- The two texts in standard input.
use Rattle.std.specs.Prelude.{◌≡◌, ◌⊎◌, ℕ, nat_eq, Bool, true, false, List, [], ◌∷◌, ◌++◌, codes, All}
use Rattle.std.specs.List.{starts_with}
use Rattle.mud_key.specs.declared.codes.TheConstants.{LF}
use Rattle.mud_cert.specs.Text.{text_of}
use Rattle.mud_key.specs.Lines.{HasNoLineFeed}

-- the line begins like the last line of a history
abbrev pub begins_end : List ℕ → Bool
begins_end line = starts_with nat_eq line (codes "end ")

-- a line that begins otherwise
pub record IsInner (line : List ℕ) : Type 0 where
  pub whole : HasNoLineFeed line
  pub other : begins_end line ≡ false

-- the history's text ends with the LF of the first line that begins with `end `, or is all of the bytes; the proof's
-- text follows
abbrev pub IsSplit : List ℕ → List ℕ → List ℕ → Type 0
IsSplit bytes history proof =
    (front : List (List ℕ)) × (last : List ℕ) × All IsInner front × HasNoLineFeed last × (bytes ≡ history ++ proof)
    × (((begins_end last ≡ true) × (history ≡ text_of front ++ (last ++ LF ∷ [])))
    ⊎ ((history ≡ text_of front ++ last) × (proof ≡ [])))

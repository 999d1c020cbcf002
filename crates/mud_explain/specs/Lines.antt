-- An input read line by line.
use Rattle.std.specs.Prelude.{ℕ, ◌<◌, List, [], ◌∷◌, ◌++◌, length}
use Rattle.mud_nvt.specs.declared.codes.TheConstants.{LF}
use Rattle.mud_key.specs.Lines.{HasNoLineFeed}

-- each line of the input has one line of output; LF ends a line, and a last line without LF counts
pub data Answers (Says : List ℕ → List ℕ → Type 0) : List ℕ → List ℕ → Type 0 where
  at_end : Answers Says [] []
  last : {line answer : List ℕ} → 0 < length line → HasNoLineFeed line → Says line answer
      → Answers Says line (answer ++ LF ∷ [])
  next : {line answer rest out : List ℕ} → HasNoLineFeed line → Says line answer → Answers Says rest out
      → Answers Says (line ++ LF ∷ rest) (answer ++ LF ∷ out)

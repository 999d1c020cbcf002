-- Appends a line.
use Rattle.std.specs.Prelude.{ℕ, ◌≡◌, List, [], ◌∷◌, ◌++◌}
use Rattle.mud_nvt.specs.declared.codes.TheConstants.{LF}

-- one more line is explained; only a private clause cites it
pub record AnswersOne (Says : List ℕ → List ℕ → Type 0) (line old new : List ℕ) : Type 0 where
  pub answer : List ℕ
  pub says : Says line answer
  pub appended : new ≡ old ++ (answer ++ LF ∷ [])

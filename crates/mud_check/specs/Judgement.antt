-- The verdict on standard input, and its output.
use Rattle.std.specs.Prelude.{◌≡◌, ◌⊎◌, ℕ, Bool, true, false, List, [], ◌∷◌, ◌++◌, codes, Option}
use mathlib.Core.List.{IsPrefix}
use Rattle.std.specs.Io.KnownBytes.{Appends}
use Rattle.mud_key.specs.declared.codes.TheConstants.{LF}
use Rattle.mud_checker.specs.declared.outcome.Outcome.{Outcome}
use Rattle.mud_check.specs.declared.judge.Unread.{Unread}
use Rattle.mud_check.specs.declared.judge.Unread.TheVariants.{OutOfMemory, File}
use Rattle.mud_checker.specs.Verdict.{IsVerdict}
use Rattle.mud_check.specs.Input.{IsSplit}

-- the outcome is the verdict on the two texts in the bytes
pub record IsJudged (bytes : List ℕ) (outcome : Outcome) : Type 0 where
  pub history : List ℕ
  pub proof : List ℕ
  pub split : IsSplit bytes history proof
  pub verdict : IsVerdict history proof outcome

-- the reason why standard input has no verdict: its reader failed, or else memory ran out
abbrev pub IsInputFault : Bool → Unread → Type 0
IsInputFault has_failed OutOfMemory = has_failed ≡ false
IsInputFault has_failed (File name) = (has_failed ≡ true) × (name.now ≡ codes "-")

-- the reason why two files have no verdict: one of them can't be read, or memory ran out
abbrev pub IsFileFault : List ℕ → List ℕ → Unread → Type 0
IsFileFault history proof OutOfMemory = Unit {0}
IsFileFault history proof (File name) = (name.now ≡ history) ⊎ (name.now ≡ proof)

-- the line was written and the status is its own; or the writer failed after a prefix of it, and the status is 2
abbrev pub Says : Option (List ℕ) → Option (List ℕ) → List ℕ → ℕ → Bool → ℕ → Type 0
Says held now_held text code has_failed status =
    ((status ≡ code) × Appends held now_held (text ++ LF ∷ []))
    ⊎ ((status ≡ 2) × (has_failed ≡ true)
    × ((front : List ℕ) × IsPrefix front (text ++ LF ∷ []) × Appends held now_held front))

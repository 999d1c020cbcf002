-- The result for two texts.
use Rattle.std.specs.Prelude.{◌≡◌, ◌≢◌, ℕ, Bool, List, Option, MatchBool}
use Rattle.mud_world.specs.State.{State}
use Rattle.mud_compact.specs.declared.reading.TextKind.{TextKind}
use Rattle.mud_compact.specs.Answer.{KeepsWorld, KeepsNoWorld}
use Rattle.mud_diff.specs.declared.answering.NoDiff.{NoDiff}
use Rattle.mud_diff.specs.declared.answering.NoDiff.TheVariants.{Old, New}
use Rattle.mud_diff.specs.declared.difference.Difference.{Difference}
use Rattle.mud_diff.specs.Differences.{AreDifferences}
use Rattle.mud_diff.specs.Rows.{diff_text}

-- the text has the differences of the worlds, and the flag says whether they are the same
pub record IsDiffText (old new : State) (text : List ℕ) (is_same : Bool) : Type 0 where
  pub differences : List Difference
  pub are : AreDifferences old new differences
  pub text_is : text ≡ diff_text old new differences
  pub same : MatchBool is_same (old ≡ new) (old ≢ new)

-- the text has the differences of the worlds that the bytes keep
pub record IsDiff (kind : TextKind) (old new text : List ℕ) (is_same : Bool) (torn : Option ℕ × Option ℕ) : Type 0 where
  pub before : State
  pub after : State
  pub old_kept : KeepsWorld kind old torn.0 before
  pub new_kept : KeepsWorld kind new torn.1 after
  pub is : IsDiffText before after text is_same

-- the reason why one of the two has no world
abbrev pub HasNoDiff : TextKind → List ℕ → List ℕ → NoDiff → Type 0
HasNoDiff kind old new (Old fault) = KeepsNoWorld kind old fault
HasNoDiff kind old new (New fault) = KeepsNoWorld kind new fault

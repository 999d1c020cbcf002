-- The journal in the bytes of a file.
use Rattle.std.specs.Prelude.{◌≡◌, ◌⊎◌, ℕ, List, [], ◌++◌, length, take, drop, All}
use Rattle.mud_chron.specs.declared.format.Format.TheVariants.{Two}
use Rattle.mud_chron.specs.Entry.{Entry}
use Rattle.mud_chron.specs.Text.{line_feed, head_line, journal_text}
use Rattle.mud_chron.specs.History.{AreEntriesOf}
use Rattle.mud_chron.specs.Zeros.{up_to_zero}
use Rattle.mud_key.specs.Lines.{HasNoLineFeed}

-- no journal was begun: the bytes of a first line contain no line feed, and only zeros follow them
pub record IsBlank (bytes : List ℕ) : Type 0 where
  pub unended : HasNoLineFeed (take (length (head_line Two ++ line_feed)) bytes)
  pub blank : All (λ b. b ≡ 0) (drop (length (head_line Two ++ line_feed)) bytes)

-- the bytes are the text of a journal of these entries, followed by a line without an end before the first zero
pub record HasJournal (bytes : List ℕ) (entries : List Entry) (torn : ℕ) : Type 0 where
  pub allowed : AreEntriesOf Two entries
  pub behind : List ℕ
  pub spelled : bytes ≡ journal_text Two entries ++ behind
  pub unended : HasNoLineFeed (up_to_zero behind)
  pub counted : torn ≡ length behind

-- the entries found in the bytes, and the number of torn bytes after them
abbrev pub Finds : List ℕ → List Entry → ℕ → Type 0
Finds bytes entries torn =
    IsBlank bytes × (entries ≡ []) × (torn ≡ length bytes) ⊎ HasJournal bytes entries torn

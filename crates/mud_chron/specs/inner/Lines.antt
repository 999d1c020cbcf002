-- The role of a line.
use Rattle.std.specs.Prelude.{◌≡◌, ℕ, ◌+◌, List}
use Rattle.mud_chron.specs.declared.format.Format.{Format}
use Rattle.mud_chron.specs.declared.line.Line.{Line}
use Rattle.mud_chron.specs.declared.line.Line.TheVariants as lines
use Rattle.mud_chron.specs.Text.{entry_line, end_line}
use Rattle.mud_chron.specs.History.{IsEntryOf}
use Rattle.mud_chron.specs.inner.Texts.{IsBad}

-- the role of the line after this many entries
abbrev pub IsLine : Format → ℕ → List ℕ → Line → Type 0
IsLine format count line (lines.Entry e) = IsEntryOf format e × (line ≡ entry_line (count + 1) e)
IsLine format count line lines.End = line ≡ end_line count
IsLine format count line lines.Bad = IsBad format count line

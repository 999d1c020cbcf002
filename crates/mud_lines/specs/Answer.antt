-- The result for a text.
use Rattle.std.specs.Prelude.{◌≡◌, ℕ, List, Option}
use Rattle.mud_world.specs.State.{State}
use Rattle.mud_compact.specs.declared.reading.TextKind.{TextKind}
use Rattle.mud_compact.specs.Answer.{KeepsWorld, KeepsNoWorld}
use Rattle.mud_lines.specs.declared.answering.NoLines.{NoLines}
use Rattle.mud_lines.specs.declared.answering.NoLines.TheVariants.{History}
use Rattle.mud_lines.specs.Typing.{LeadTo, lines_text}

-- the text is that of lines that lead to the world
pub record IsTextTo (text : List ℕ) (w : State) : Type 0 where
  pub lines : List (List ℕ)
  pub lead : LeadTo lines w
  pub text_is : text ≡ lines_text lines

-- the text is that of lines that lead to the world that the bytes keep
pub record IsBuilt (kind : TextKind) (bytes text : List ℕ) (torn : Option ℕ) : Type 0 where
  pub world : State
  pub keeps : KeepsWorld kind bytes torn world
  pub leads : IsTextTo text world

-- the bytes keep no world, or they keep one and there is another fault
abbrev pub HasNoLines : TextKind → List ℕ → NoLines → Type 0
HasNoLines kind bytes (History fault) = KeepsNoWorld kind bytes fault
HasNoLines kind bytes other = (w : State) × (torn : Option ℕ) × KeepsWorld kind bytes torn w

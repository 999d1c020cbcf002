-- The bytes at which an allocation can fail.
use Rattle.std.specs.Prelude.{ℕ, List, [], ◌∷◌, ◌++◌, ◌≡◌, Bool, true, false, IsTrue}
use Rattle.std.specs.List.{list_any}
use Rattle.mud_nvt.specs.declared.strokes.Stroke.{Stroke}
use Rattle.mud_nvt.specs.declared.strokes.Stroke.TheVariants.{EraseCharacter, EraseLine}
use Rattle.mud_nvt.specs.declared.strokes.Stroke.TheVariants.{Nothing}
use Rattle.mud_nvt.specs.Telnet.{pieces}
use Rattle.mud_nvt.specs.Strokes.{strokes}
use Rattle.mud_nvt.specs.Held.{Held}
use Rattle.mud_nvt.specs.History.{StandsAfter}

-- true if a stroke can allocate: it types a character or completes a unit
abbrev pub takes_memory : Stroke → Bool
takes_memory EraseCharacter = false
takes_memory EraseLine = false
takes_memory Nothing = false
takes_memory other = true

-- whatever came earlier, after these bytes the next byte completes a piece whose stroke can allocate
pub record StopsBefore (old : Held) (bytes : List ℕ) (b : ℕ) : Type 0 where
  pub here : (earlier : List ℕ) → StandsAfter old earlier → (fresh : List Stroke)
      × (strokes (pieces ((earlier ++ bytes) ++ b ∷ [])) ≡ strokes (pieces (earlier ++ bytes)) ++ fresh)
      × IsTrue (list_any takes_memory fresh)

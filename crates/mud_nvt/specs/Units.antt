-- The units of a stream.
use Rattle.std.specs.Prelude.{ℕ, List, [], ◌∷◌, ◌++◌, if◌then◌else◌}
use Rattle.mud_nvt.specs.declared.codes.TheConstants.{IAC}
use Rattle.mud_nvt.specs.declared.strokes.Stroke.{Stroke}
use Rattle.mud_nvt.specs.declared.strokes.Stroke.TheVariants.{EndLine}
use Rattle.mud_nvt.specs.declared.strokes.Stroke.TheVariants.{AreYouThere, Refuse}
use Rattle.mud_nvt.specs.Telnet.{pieces}
use Rattle.mud_nvt.specs.Strokes.{strokes, line, is_too_long}

-- a unit as a caller sees it; a text is its bytes
pub data Given : Type 0 where
  Text : (text : List ℕ) → Given
  TooLong : Given
  Ayt : Given
  Answer : (bytes : List ℕ) → Given

-- the units that a stroke completes after the earlier strokes, the latest stroke first
abbrev pub units_at : List Stroke → Stroke → List Given
units_at earlier EndLine = (if is_too_long earlier then TooLong else Text (line earlier)) ∷ []
units_at earlier AreYouThere = Ayt ∷ []
units_at earlier (Refuse verb option) = Answer (IAC ∷ verb ∷ option ∷ []) ∷ []
units_at earlier other = []

-- the units of these strokes after the earlier strokes, the latest stroke first
abbrev pub units_after : List Stroke → List Stroke → List Given
units_after earlier [] = []
units_after earlier (s ∷ later) = units_at earlier s ++ units_after (s ∷ earlier) later

-- the units of these bytes
abbrev pub units : List ℕ → List Given
units bytes = units_after [] (strokes (pieces bytes))

-- Runs of printable characters.
use Rattle.std.specs.Prelude.{ℕ, List, ◌++◌, ◌+◌, ◌≡◌, ◌<◌, ◌≤◌, length, take, false, All}
use Rattle.mud_nvt.specs.declared.TheConstants.{MOST}
use Rattle.mud_nvt.specs.declared.telnet.Position.TheVariants.{Between}
use Rattle.mud_nvt.specs.Held.{Held}
use Rattle.mud_nvt.specs.declared.codes.TheConstants.{SPACE, TILDE}
use Rattle.mud_nvt.specs.declared.strokes.Stroke.{Stroke}
use Rattle.mud_nvt.specs.declared.strokes.Stroke.TheVariants.{Character}

-- a character from the space to the tilde; private clauses cite it
abbrev pub IsPrintable : ℕ → Type 0
IsPrintable c = (SPACE ≤ c) × (c ≤ TILDE)

-- a stroke types a printable character or no character
abbrev pub IsPlain : Stroke → Type 0
IsPlain (Character c) = IsPrintable c
IsPlain other = Unit {0}

-- the bytes begin with this text, which goes to the end of the line, and the line has room for it
pub record IsTyped (held : Held) (bytes text : List ℕ) : Type 0 where
  pub front : text ≡ take (length text) bytes
  pub some : 0 < length text
  pub within : length text ≤ length bytes
  pub printable : All IsPrintable text
  pub between : held.place ≡ Between
  pub fits : held.too_long ≡ false
  pub short : length held.text + length text ≤ MOST

-- the state with this text appended to the line
abbrev pub with_text : Held → List ℕ → Held
with_text h text = record { place = h.place; after_cr = false; text = h.text ++ text; too_long = h.too_long }

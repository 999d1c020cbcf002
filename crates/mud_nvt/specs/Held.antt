-- The state of a terminal between two bytes.
use Rattle.std.specs.Prelude.{ℕ, List}
use Rattle.std.specs.Prelude.{Bool}
use Rattle.mud_nvt.specs.declared.telnet.Position.{Position}

-- the state of a terminal: the position in a piece, whether the last piece is a CR, the line, and whether the line is
-- too long
pub record Held : Type 0 where
  pub place : Position
  pub after_cr : Bool
  pub text : List ℕ
  pub too_long : Bool

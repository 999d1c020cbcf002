-- The size of what a session keeps.
use Rattle.std.specs.Prelude.{◌≡◌, ◌≤◌, ◌⊎◌, [], length}
use Rattle.mud_nvt.specs.declared.TheConstants.{MOST}
use Rattle.mud_session.specs.State.{SessionState}
use Rattle.mud_session.specs.Talks.{greeting}

-- a session keeps at most the 1,000 characters of a line, and no output but its greeting. The rest of its state has a
-- constant size: three flags, and a position in a Telnet command
pub record IsSmall (session : SessionState) : Type 0 where
  pub line : length session.terminal.text ≤ MOST
  pub out : (session.out ≡ []) ⊎ (session.out ≡ greeting)

-- The result of a volume, and of a turn.
use Rattle.mud_server.specs.declared.volumes.Outcome.{Outcome}
use Rattle.mud_server.specs.declared.volumes.Outcome.TheVariants.{Ends, Turns}
use Rattle.mud_server.specs.declared.volumes.Turned.{Turned}
use Rattle.mud_server.specs.declared.volumes.Turned.TheVariants.{Next, Same}

-- a property of the end, and one of a volume that turns
abbrev pub MatchOutcome : {E T : Type 0} → (E → Type 0) → (T → Type 0) → Outcome E T → Type 0
MatchOutcome ends turns (Ends e) = ends e
MatchOutcome ends turns (Turns t) = turns t

-- a property of the next volume, and one of the same volume that goes on
abbrev pub MatchTurned : {N S : Type 0} → (N → Type 0) → (S → Type 0) → Turned N S → Type 0
MatchTurned next same (Next n) = next n
MatchTurned next same (Same s) = same s

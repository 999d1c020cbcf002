-- The reasons why a journal does not turn to its next volume.
use Rattle.std.specs.Prelude.{ℕ}
use Rattle.mud_journal.specs.OpenFaults.{IsBeginFault}
use Rattle.mud_shelf.specs.declared.fault.TurnFault.{TurnFault}
use Rattle.mud_shelf.specs.declared.fault.TurnFault.TheVariants.{CalledOff, Unknown}

-- the reason why no volume with this many entries is begun
abbrev pub IsTurnFault : ℕ → TurnFault → Type 0
IsTurnFault count (CalledOff why) = IsBeginFault count why
IsTurnFault count (Unknown why) = IsBeginFault count why

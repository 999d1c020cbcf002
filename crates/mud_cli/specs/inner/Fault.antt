-- How errors of clap become faults.
use Rattle.std.specs.Prelude.{◌≡◌, ◌≢◌, ◌⊎◌}
use Rattle.clap.specs.declared.error.ErrorKind.{ErrorKind}
use Rattle.mud_cli.specs.declared.fault.CommandFault.{CommandFault}
use Rattle.mud_cli.specs.declared.fault.CommandFault.TheVariants.{OutOfMemory, Told, Asked}

-- the fault that an error of this kind becomes: only help and the version become texts for standard output
abbrev pub IsOfKind : ErrorKind → CommandFault → Type 0
IsOfKind kind OutOfMemory = Unit {0}
IsOfKind kind (Told text) = (kind ≢ ErrorKind.DisplayHelp) × (kind ≢ ErrorKind.DisplayVersion)
IsOfKind kind (Asked text) = (kind ≡ ErrorKind.DisplayHelp) ⊎ (kind ≡ ErrorKind.DisplayVersion)

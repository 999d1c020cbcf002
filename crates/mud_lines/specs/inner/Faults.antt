-- Faults that are not those of a text.
use Rattle.std.specs.Prelude.{◌≡◌}
use Rattle.mud_chron.specs.declared.fault.ChronFault.TheVariants.{OutOfMemory}
use Rattle.mud_compact.specs.declared.fault.KeptFault.TheVariants.{Text}
use Rattle.mud_lines.specs.declared.answering.NoLines.{NoLines}
use Rattle.mud_lines.specs.declared.answering.NoLines.TheVariants.{History}

-- memory ran out, or the text has a world
abbrev pub IsOther : NoLines → Type 0
IsOther (History fault) = fault ≡ Text OutOfMemory
IsOther other = Unit {0}

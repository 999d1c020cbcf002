-- The reasons why a hall does not continue a file.
use Rattle.mud_chron.specs.declared.fault.ChronFault.{ChronFault}
use Rattle.mud_chron.specs.declared.fault.ChronFault.TheVariants as Text
use Rattle.mud_hall.specs.declared.fault.LoadFault.{LoadFault}
use Rattle.mud_hall.specs.declared.fault.LoadFault.TheVariants as Load
use Rattle.mud_history_file.specs.declared.unloaded.Unloaded.{Unloaded}
use Rattle.mud_history_file.specs.declared.unloaded.Unloaded.TheVariants as Is

-- the reason why a text is not a history
abbrev pub unloaded_text : ChronFault → Unloaded
unloaded_text Text.OutOfMemory = Is.OutOfMemory
unloaded_text Text.NotHistory = Is.NotHistory
unloaded_text (Text.BadLine line) = Is.Line line
unloaded_text (Text.BadChange entry) = Is.Change entry
unloaded_text Text.TooLong = Is.TooLong
unloaded_text Text.NoEnd = Is.NoEnd

-- the reason why a hall does not continue some entries
abbrev pub unloaded_entries : LoadFault → Unloaded
unloaded_entries Load.OutOfMemory = Is.OutOfMemory
unloaded_entries (Load.BadChange entry) = Is.Change entry
unloaded_entries Load.OverCapacity = Is.OverCapacity
unloaded_entries Load.NotStored = Is.NotStored

-- Which changes are left out of a history.
use Rattle.std.specs.Prelude.{ℕ, Bool, nat_eq, nat_le, ◌&&◌, Some, None}
use Rattle.std.specs.List.{list_any}
use Rattle.mud_chron.specs.Entry.{Entry}
use Rattle.mud_undo.specs.declared.choice.Choice.{Choice}
use Rattle.mud_undo.specs.declared.choice.Choice.TheVariants.{Versions, Since}

-- the entry that makes this version is left out
abbrev pub leaves_out : Choice → ℕ → Entry → Bool
leaves_out (Versions versions) version e = list_any (nat_eq version) versions.items
leaves_out (Since first None) version e = nat_le first version
leaves_out (Since first (Some actor)) version e = nat_le first version && nat_eq e.change.actor actor

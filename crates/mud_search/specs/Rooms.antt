-- The state of the rooms of all members.
use Rattle.std.specs.Prelude.{ℕ}
use Rattle.mud_search.specs.declared.slot.Slot.{Slot}
use Rattle.mud_search.specs.declared.slot.Slot.TheVariants.{Unknown}
use Rattle.mud_search.specs.Tables.{Table, at}

-- the slot of a member's room; past the last member and room all are unknown
abbrev pub slot_in : Table Slot → ℕ → ℕ → Slot
slot_in f m room = at Unknown f m room

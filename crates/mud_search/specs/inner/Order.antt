-- The order of tasks, and the label of a member's room.
use Rattle.std.specs.Prelude.{◌≡◌, ℕ, ◌≤◌, Option}
use Rattle.mud_roads.specs.declared.label.Label.{Label}
use Rattle.mud_roads.specs.Walks.{AtMost}
use Rattle.mud_search.specs.declared.task.Task.{Task}
use Rattle.mud_search.specs.declared.slot.Slot.{Slot}
use Rattle.mud_search.specs.Slots.{labels_of}
use Rattle.mud_search.specs.Tables.{Table}
use Rattle.mud_search.specs.Rooms.{slot_in}

-- a lesser label, or an equal one and an earlier member, or equal ones and no greater room
abbrev pub IsTaskBefore : Task → ℕ → ℕ → Label → Type 0
IsTaskBefore a m r b = AtMost a.label b × (a.label ≡ b → (a.member ≤ m) × (a.member ≡ m → a.room ≤ r))

-- the label of a member's room, if it has one
abbrev pub labels_in : Table Slot → ℕ → ℕ → Option Label
labels_in f m = labels_of (slot_in f m)

-- The state of one room.
use Rattle.std.specs.Prelude.{ℕ, Bool, true, false, Option, None, Some}
use Rattle.mud_roads.specs.declared.label.Label.{Label}
use Rattle.mud_search.specs.declared.slot.Slot.{Slot}
use Rattle.mud_search.specs.declared.slot.Slot.TheVariants.{Unknown, Waiting, Held, Finished}

-- true if it waits
abbrev pub is_waiting : Slot → Bool
is_waiting (Waiting l) = true
is_waiting slot = false

-- true if it is held
abbrev pub is_held : Slot → Bool
is_held (Held l) = true
is_held slot = false

-- its label, if it has one
abbrev pub label_of : Slot → Option Label
label_of Unknown = None
label_of (Waiting l) = Some l
label_of (Held l) = Some l
label_of (Finished l) = Some l

-- the labels of these rooms
abbrev pub labels_of : (ℕ → Slot) → ℕ → Option Label
labels_of slots room = label_of (slots room)

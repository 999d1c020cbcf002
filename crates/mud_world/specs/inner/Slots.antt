-- Records in the slots of their numbers, and edits of a record.
use Rattle.std.specs.Prelude.{ℕ, ◌+◌, List, [], ◌∷◌, Option, Some, None}
use Rattle.mud_world.specs.declared.record.Record.{Record}
use Rattle.mud_world.specs.declared.slots.Edit.{Edit}
use Rattle.mud_world.specs.declared.slots.Edit.TheVariants as edit
use Rattle.mud_world.specs.inner.Edits.{placed_at, costing_at, with_names, with_key}

-- the records in the slots, with the numbers of these: the first slot has number n
abbrev pub entries_from : ℕ → List (Option Record) → List (ℕ × Record)
entries_from n [] = []
entries_from n (Some r ∷ slots) = (n, r) ∷ entries_from (n + 1) slots
entries_from n (None ∷ slots) = entries_from (n + 1) slots

abbrev pub entries_of : List (Option Record) → List (ℕ × Record)
entries_of slots = entries_from 0 slots

-- the record after an edit
abbrev pub edited : Edit → Record → Record
edited (edit.Place place) = placed_at place
edited (edit.Cost cost) = costing_at cost
edited (edit.Names names) = with_names names
edited (edit.Key key) = with_key key

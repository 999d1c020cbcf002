-- The slots in memory, a list for each member, and their updates.
use Rattle.std.specs.Prelude.{◌≡◌, ◌⊎◌, ℕ, ◌+◌, ◌*◌, ◌<◌, ◌≤◌, ◌^◌, Bool, true, ◌==◌, ◌&&◌, ◌||◌, nat_lt, if◌then◌else◌}
use Rattle.std.specs.Prelude.{List, [], ◌∷◌, map, length, Option, None, Some, slice_index_or, slice_set}
use Rattle.std.specs.Prelude.{replicate, sum_by, count_by}
use Rattle.mud_world.specs.declared.limits.TheConstants.{NUMBERS, MOST_COST}
use Rattle.mud_roads.specs.declared.label.Label.{Label}
use Rattle.mud_roads.specs.declared.label.Step.{Step}
use Rattle.mud_roads.specs.Passable.{Knowledge}
use Rattle.mud_roads.specs.Walks.{Roads, after}
use Rattle.mud_roads.specs.Labels.{start_label}
use Rattle.mud_search.specs.declared.slot.Slot.{Slot}
use Rattle.mud_search.specs.declared.slot.Slot.TheVariants.{Unknown, Waiting, Held, Finished}
use Rattle.mud_search.specs.declared.task.Task.{Task}
use Rattle.mud_search.specs.Slots.{is_waiting, is_held, label_of}
use Rattle.mud_search.specs.inner.Trails.{IsTraced}

-- the slot of a room; past the end all are unknown
abbrev pub slot_at : List Slot → ℕ → Slot
slot_at slots room = slice_index_or slots room Unknown

-- the label of a room, if it has one
abbrev pub label_at : List Slot → ℕ → Option Label
label_at slots room = label_of (slot_at slots room)

-- its label, if it waits
abbrev pub waiting_label : Slot → Option Label
waiting_label Unknown = None
waiting_label (Waiting l) = Some l
waiting_label (Held l) = None
waiting_label (Finished l) = None

-- the queue has exactly the waiting rooms, and the counts are correct
pub record IsBoard (slots : List Slot) (order : List (Option Label)) (waiting held : ℕ) : Type 0 where
  pub few : length slots < 2 ^ 32
  pub whole : length order ≡ length slots
  pub ordered : (room : ℕ) → slice_index_or order room None ≡ waiting_label (slot_at slots room)
  pub waiting_count : waiting ≡ count_by is_waiting slots
  pub held_count : held ≡ count_by is_held slots

-- a lesser label, or an equal one and no greater room
abbrev pub IsBefore : Label → ℕ → Label → ℕ → Type 0
IsBefore a r b q =
    (a.cost ≤ b.cost) × (a.cost ≡ b.cost → (a.exits ≤ b.exits) × (a.exits ≡ b.exits → r ≤ q))

-- less, in cost or in exits
abbrev pub Below : Label → Label → Type 0
Below a b = (a.cost ≤ b.cost) × (a.cost ≡ b.cost → a.exits < b.exits)

-- a lesser cost, or an equal cost and fewer exits
abbrev pub is_below : Label → Label → Bool
is_below a b = nat_lt a.cost b.cost || ((a.cost == b.cost) && nat_lt a.exits b.exits)

-- the label is new there, or less than the one there
abbrev pub falls : Label → Option Label → Bool
falls l None = true
falls l (Some k) = is_below l k

-- the slots after a step from a room with this label
abbrev pub offer : Label → Step → List Slot → List Slot
offer l s slots =
    if falls (after 1 l s) (label_at slots s.to) then slice_set slots s.to (Waiting (after 1 l s)) else slots

-- the slots after all these steps, in order
abbrev pub offers : Label → List Step → List Slot → List Slot
offers l [] slots = slots
offers l (s ∷ ss) slots = offers l ss (offer l s slots)

-- the slots after all steps from a room, which is then finished
abbrev pub settle : ℕ → Label → List Step → List Slot → List Slot
settle room l steps slots = slice_set (offers l steps slots) room (Finished l)

-- ---- the slots of all members

-- the slots of a member; there are none past the last
abbrev pub board_of : List (List Slot) → ℕ → List Slot
board_of boards member = slice_index_or boards member []

-- the slot of a member's room
abbrev pub slot_of : List (List Slot) → ℕ → ℕ → Slot
slot_of boards member room = slot_at (board_of boards member) room

-- all rooms are unknown except the member's place, which waits
abbrev pub begun_at : ℕ → Knowledge → List Slot
begun_at rooms t = slice_set (replicate rooms Unknown) t.place (Waiting start_label)

-- the label of each slot
abbrev pub lists_of : List (List Slot) → List (List (Option Label))
lists_of boards = map (map label_of) boards

-- ---- the facts

-- there is a slot for each room, and they are faithful to the roads
pub record IsBoardOf (roads : Roads) (from rooms : ℕ) (slots : List Slot) : Type 0 where
  pub whole : length slots ≡ rooms
  pub faithful : IsTraced roads from (slot_at slots)

-- the task with the lesser label: the given one, or that of a later member
abbrev pub lesser : Option Task → ℕ → Option (Label × ℕ) → Option Task
lesser best member None = best
lesser None member (Some found) = Some (record { member = member; room = found.1; label = found.0 })
lesser (Some t) member (Some found) =
    if is_below found.0 t.label then Some (record { member = member; room = found.1; label = found.0 }) else Some t

-- ---- the remaining work

-- the task's room waits or is held, with its label
abbrev pub IsLeft : (ℕ → ℕ → Slot) → Task → Type 0
IsLeft slots t = (slots t.member t.room ≡ Waiting t.label) ⊎ (slots t.member t.room ≡ Held t.label)

-- a bound above every label
abbrev pub top : ℕ
top = MOST_COST * NUMBERS * NUMBERS

-- the remaining work at a room: less if its label has fallen, and less if it was taken or finished
abbrev pub weight : Slot → ℕ
weight Unknown = 3 * top
weight (Waiting l) = 3 * (l.cost * NUMBERS + l.exits) + 2
weight (Held l) = 3 * (l.cost * NUMBERS + l.exits) + 1
weight (Finished l) = 3 * (l.cost * NUMBERS + l.exits)

-- the total remaining work
abbrev pub potential : List (List Slot) → ℕ
potential boards = sum_by (sum_by weight) boards

-- The waiting rooms in memory: a heap of entries, and the index of each room in it.
use Rattle.std.specs.Prelude.{◌≡◌, ◌≢◌, ℕ, ◌-◌, ◌/◌, ◌^◌, ◌<◌, ◌≤◌, nat_lt, if◌then◌else◌, List, Option, None, Some}
use Rattle.std.specs.Prelude.{length, map, slice_index, slice_index_or}
use Rattle.mud_roads.specs.declared.label.Label.{Label}
use Rattle.mud_search.specs.declared.queue.Entry.{Entry}
use Rattle.mud_search.specs.declared.queue.Heap.{Heap}
use Rattle.mud_search.specs.inner.Boards.{IsBefore}

-- the entry at an index
abbrev pub entry_at : List Entry → ℕ → Entry
entry_at entries i = slice_index_or entries i (record { label = record { cost = 0; exits = 0 }; room = 0 })

-- the index of a room
abbrev pub place_at : List ℕ → ℕ → ℕ
place_at places room = slice_index places room

-- the label of the entry at an index, if it waits
abbrev pub label_there : List Entry → ℕ → ℕ → Option Label
label_there entries waiting p = if nat_lt p waiting then Some (entry_at entries p).label else None

-- the label of each waiting room, by number
abbrev pub waiting_labels : List Entry → List ℕ → ℕ → List (Option Label)
waiting_labels entries places waiting = map (λ p. label_there entries waiting p) places

-- the label of each room that waits in a heap, by number
abbrev pub heap_labels : Heap → List (Option Label)
heap_labels h = waiting_labels h.entries.items h.places.items h.waiting

-- a lesser label, or an equal one and no greater room
abbrev pub IsNoLater : Entry → Entry → Type 0
IsNoLater a b = IsBefore a.label a.room b.label b.room

-- each room has an entry, at the index of the room
pub record IsMatched (entries : List Entry) (places : List ℕ) : Type 0 where
  pub few : length entries < 2 ^ 32
  pub whole : length places ≡ length entries
  pub here : (i : ℕ) → i < length entries
      → ((entry_at entries i).room < length entries) × (place_at places (entry_at entries i).room ≡ i)
  pub there : (r : ℕ) → r < length entries
      → (place_at places r < length entries) × ((entry_at entries (place_at places r)).room ≡ r)

-- the waiting rooms come first, and none before its parent
pub record IsQueue (entries : List Entry) (places : List ℕ) (waiting : ℕ) : Type 0 where
  pub matched : IsMatched entries places
  pub fits : waiting ≤ length entries
  pub ordered : (i : ℕ) → 0 < i → i < waiting → IsNoLater (entry_at entries ((i - 1) / 2)) (entry_at entries i)

-- ordered, whatever the entry at this index is
pub record IsOrderedBut (entries : List Entry) (waiting at : ℕ) : Type 0 where
  pub rest : (i : ℕ) → 0 < i → i < waiting → i ≢ at → (i - 1) / 2 ≢ at
      → IsNoLater (entry_at entries ((i - 1) / 2)) (entry_at entries i)
  pub past : (i : ℕ) → 0 < i → i < waiting → (i - 1) / 2 ≡ at → 0 < at
      → IsNoLater (entry_at entries ((at - 1) / 2)) (entry_at entries i)

-- ordered, except that the entry at this index may have to sink
pub record IsOrderedDownTo (entries : List Entry) (waiting at : ℕ) : Type 0 where
  pub rest : (i : ℕ) → 0 < i → i < waiting → (i - 1) / 2 ≢ at
      → IsNoLater (entry_at entries ((i - 1) / 2)) (entry_at entries i)
  pub past : (i : ℕ) → 0 < i → i < waiting → (i - 1) / 2 ≡ at → 0 < at
      → IsNoLater (entry_at entries ((at - 1) / 2)) (entry_at entries i)

-- a child of a place, and no other child comes before it
pub record IsFirstBelow (entries : List Entry) (waiting at below : ℕ) : Type 0 where
  pub some : 0 < below
  pub within : below < waiting
  pub under : (below - 1) / 2 ≡ at
  pub first : (i : ℕ) → 0 < i → i < waiting → (i - 1) / 2 ≡ at → IsNoLater (entry_at entries below) (entry_at entries i)

-- two entries are swapped
pub record IsSwapped (before after : List Entry) (i j : ℕ) : Type 0 where
  pub whole : length after ≡ length before
  pub one : entry_at after i ≡ entry_at before j
  pub other : entry_at after j ≡ entry_at before i
  pub rest : (k : ℕ) → k ≢ i → k ≢ j → entry_at after k ≡ entry_at before k

-- The model of the maps in memory.
use Rattle.std.specs.Prelude.{◌≡◌, ℕ, Bool, List}
use Rattle.std.specs.Option.{option_map}
use Rattle.std.specs.List.{list_any}
use Rattle.std.specs.Str.{str_eq_ignore_ascii_case, str_to_ascii_lowercase}
use Rattle.mud_index.specs.Lists.{list_at}
use Rattle.mud_index.specs.Owners.{owner_of}
use Rattle.mud_world.specs.declared.record.Record.{Record}
use Rattle.mud_world.specs.declared.world.World.TheInside.{Inside}
use Rattle.mud_world.specs.State.{State, has, is_number, kind_place, kind_passage, numbers_with}
use Rattle.mud_world.specs.inner.Edits.{asked_by, names_to_find}

-- the records by number, without the lists derived from them
abbrev pub state_of : Inside → State
state_of a = record { objects = a.records; next = a.next }

-- the object of the record lies in n
abbrev pub lies_in : ℕ → Record → Bool
lies_in n r = is_number n (kind_place r.kind)

-- the object of the record is an exit that leaves n
abbrev pub leaves : ℕ → Record → Bool
leaves n r = is_number n (option_map (λ p. p.source) (kind_passage r.kind))

-- the object of the record is an exit that leads to n
abbrev pub arrives : ℕ → Record → Bool
arrives n r = is_number n (option_map (λ p. p.destination) (kind_passage r.kind))

-- the key of the record asks about n
abbrev pub asks_it : ℕ → Record → Bool
asks_it n r = asked_by n r.key

-- the list of each number n has the objects whose records pass the test of n
abbrev pub AreOf : (ℕ → Record → Bool) → List (ℕ × List ℕ) → State → Type 0
AreOf test lists w = (n : ℕ) → list_at lists n ≡ numbers_with (test n) w

-- object n is found by this name
abbrev pub is_called : State → ℕ → List ℕ → Bool
is_called w n name = has w n (λ r. list_any (str_eq_ignore_ascii_case name) (names_to_find r))

-- the owner of each lower-case text is the object that this name finds
abbrev pub AreNames : List (List ℕ × ℕ) → State → Type 0
AreNames owners w =
    (name : List ℕ) (n : ℕ) → is_number n (owner_of owners (str_to_ascii_lowercase name)) ≡ is_called w n name

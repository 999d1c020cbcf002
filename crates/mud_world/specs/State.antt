-- The model of a world, and the questions about it.
use Rattle.std.specs.Prelude.{◌≡◌, find, ℕ, Bool, true, false, not, ◌&&◌, ◌||◌, nat_eq, List, map, filter, Option, Some}
use Rattle.std.specs.Prelude.{is_some, is_none, IsTrue}
use Rattle.std.proofs.Common.{zero, suc}
use Rattle.std.specs.Option.{option_map, option_map_or, option_and_then}
use Rattle.std.specs.List.{list_all, list_any}
use Rattle.std.specs.Map.{lookup}
use Rattle.std.specs.Str.{str_eq_ignore_ascii_case}
use Rattle.mud_key.specs.Tree.{Tree, asks_of}
use Rattle.mud_world.specs.declared.limits.TheConstants.{MOST_NESTING}
use Rattle.mud_world.specs.declared.record.Passage.{Passage}
use Rattle.mud_world.specs.declared.record.Record.{Record}
use Rattle.mud_world.specs.Truth.{key_true}
pub use Rattle.mud_world.specs.Kinds.{is_room_kind, is_exit_kind, is_thing_kind, is_player_kind, kind_place}
pub use Rattle.mud_world.specs.Kinds.{kind_passage}

-- the records sorted by number, and the next number
pub record State : Type 0 where
  pub objects : List (ℕ × Record)
  pub next : ℕ

-- ---- one object

-- the record of object n
abbrev pub record_at : State → ℕ → Option Record
record_at w n = lookup (nat_eq n) w.objects

abbrev pub exists : State → ℕ → Bool
exists w n = is_some (record_at w n)

-- object n exists and its record passes the test
abbrev pub has : State → ℕ → (Record → Bool) → Bool
has w n test = option_map_or test (record_at w n) false

-- object n exists and is a room
abbrev pub is_room : State → ℕ → Bool
is_room w n = has w n (λ r. is_room_kind r.kind)

-- object n exists and is an exit
abbrev pub is_exit : State → ℕ → Bool
is_exit w n = has w n (λ r. is_exit_kind r.kind)

-- object n exists and is a thing
abbrev pub is_thing : State → ℕ → Bool
is_thing w n = has w n (λ r. is_thing_kind r.kind)

-- object n exists and is a player
abbrev pub is_player : State → ℕ → Bool
is_player w n = has w n (λ r. is_player_kind r.kind)

-- ---- places

-- the place of object n
abbrev pub place_of : State → ℕ → Option ℕ
place_of w n = option_and_then (λ r. kind_place r.kind) (record_at w n)

-- the option has this number
abbrev pub is_number : ℕ → Option ℕ → Bool
is_number n o = option_map_or (nat_eq n) o false

-- the numbers of the records that pass the test, sorted
abbrev pub numbers_with : (Record → Bool) → State → List ℕ
numbers_with test w = map (λ e. e.0) (filter (λ e. test e.1) w.objects)

-- the objects in n. A reader need not look into this: in sound worlds the law `laws::contents` characterizes it
abbrev pub contents_of : State → ℕ → List ℕ
contents_of w n = numbers_with (λ r. is_number n (kind_place r.kind)) w

-- the object reached from o by following places k times
abbrev pub follow : State → ℕ → ℕ → Option ℕ
follow w zero o = Some o
follow w (suc k) o = option_and_then (follow w k) (place_of w o)

-- o exists, and following places from o, zero or more times, gives c
abbrev pub Within : State → ℕ → ℕ → Type 0
Within w o c = IsTrue (exists w o) × ((k : ℕ) × (follow w k o ≡ Some c))

-- following places from o, fewer than n times, gives c
abbrev pub comes_to : State → ℕ → ℕ → ℕ → Bool
comes_to w zero o c = false
comes_to w (suc n) o c = nat_eq o c || option_map_or (λ p. comes_to w n p c) (place_of w o) false

-- `Within` as a test. A reader need not look into this: in sound worlds they agree, by the law `laws::containment`
abbrev pub within : State → ℕ → ℕ → Bool
within w o c = exists w o && comes_to w w.next o c

-- the numbers of c, if it exists, and of everything inside it at any depth
abbrev pub IsHolding : State → ℕ → List ℕ → Type 0
IsHolding w c held = (o : ℕ) → list_any (nat_eq o) held ≡ within w o c

-- ---- exits

-- the ends and the cost of exit n
abbrev pub passage_of : State → ℕ → Option Passage
passage_of w n = option_and_then (λ r. kind_passage r.kind) (record_at w n)

-- the room that exit n leaves
abbrev pub source_of : State → ℕ → Option ℕ
source_of w n = option_map (λ p. p.source) (passage_of w n)

-- the room that exit n leads to
abbrev pub destination_of : State → ℕ → Option ℕ
destination_of w n = option_map (λ p. p.destination) (passage_of w n)

-- the exits out of n. A reader need not look into this: in sound worlds the law `laws::leaving` characterizes it
abbrev pub leaving_of : State → ℕ → List ℕ
leaving_of w n = numbers_with (λ r. is_number n (option_map (λ p. p.source) (kind_passage r.kind))) w

-- the exits whose destination is n. A reader need not look into this: the law `laws::arriving` characterizes it in
-- sound worlds
abbrev pub arriving_of : State → ℕ → List ℕ
arriving_of w n = numbers_with (λ r. is_number n (option_map (λ p. p.destination) (kind_passage r.kind))) w

-- ---- keys

-- the key of object n, if it has one
abbrev pub key_of : State → ℕ → Option (Tree ℕ)
key_of w n = option_and_then (λ r. r.key) (record_at w n)

-- o exists, and has no key, or n > 0 and a key that is true with n - 1 levels left; held says which objects are true
abbrev pub unlocked_in : State → ℕ → (ℕ → Bool) → ℕ → Bool
unlocked_in w zero held o = has w o (λ r. is_none r.key)
unlocked_in w (suc n) held o = has w o (λ r. option_map_or (key_true held (unlocked_in w n held)) r.key true)

-- key k is true with n levels left
abbrev pub holds_for : State → (ℕ → Bool) → Tree ℕ → ℕ → Bool
holds_for w held k n = key_true held (unlocked_in w n held) k

-- object o is unlocked for c. A reader need not look into this: the law `laws::levels` states it without levels
abbrev pub unlocked : State → ℕ → ℕ → Bool
unlocked w c o = has w o (λ r. option_map_or (λ k. holds_for w (λ a. within w a c) k MOST_NESTING) r.key true)

-- k nests at most n: it asks nothing, or n > 0 and each key of an object that it asks about nests at most n - 1
abbrev pub nests : State → ℕ → Tree ℕ → Bool
nests w zero k = list_all (λ o. false) (asks_of k)
nests w (suc n) k = list_all (λ o. option_map_or (nests w n) (key_of w o) true) (asks_of k)

-- each key of the world nests at most 3
abbrev pub all_nest : State → Bool
all_nest w = list_all (λ e. option_map_or (nests w MOST_NESTING) e.1.key true) w.objects

-- ---- names

-- a name of one is a name of the other, ignoring ASCII case
abbrev pub shares : List (List ℕ) → List (List ℕ) → Bool
shares names others = list_any (λ a. list_any (str_eq_ignore_ascii_case a) others) names

-- a player other than n has one of the names
abbrev pub is_taken : State → ℕ → List (List ℕ) → Bool
is_taken w n names = list_any (λ e. not (nat_eq n e.0) && (is_player_kind e.1.kind && shares names e.1.names)) w.objects

-- the player with this name
abbrev pub named_player : State → List ℕ → Option ℕ
named_player w name =
    option_map (λ e. e.0)
    (find (λ e. is_player_kind e.1.kind && list_any (str_eq_ignore_ascii_case name) e.1.names) w.objects)

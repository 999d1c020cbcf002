-- Parts of results, of conditions and of the invariant.
use Rattle.std.specs.Prelude.{◌≡◌, ◌≢◌, ℕ, ◌+◌, ◌<◌, Bool, false, not, ◌&&◌, nat_eq, nat_lt, List, Option, Some, None}
use Rattle.std.specs.Prelude.{IfSome, IsTrue}
use Rattle.std.specs.Option.{option_map_or}
use Rattle.std.specs.List.{list_all}
use Rattle.std.specs.Map.{set_value, remove_entry}
use Rattle.mud_key.specs.Tree.{Tree, IsKey, AllObjects}
use Rattle.mud_key.specs.Names.{AreNames}
use Rattle.mud_key.specs.declared.codes.TheConstants.{SPACE, TILDE}
use Rattle.mud_world.specs.declared.limits.TheConstants.{NUMBERS}
use Rattle.mud_world.specs.declared.record.Kind.TheVariants.{Player}
use Rattle.mud_world.specs.declared.record.Record.{Record}
use Rattle.mud_world.specs.declared.change.Doors.{Doors}
use Rattle.mud_world.specs.Kinds.{kind_at, kind_costing, is_player_kind}
use Rattle.mud_world.specs.State.{State, record_at, place_of, is_number, source_of, shares}
use Rattle.mud_world.specs.Results.{with_record_changed}

-- the world with record r for object n, if it exists
abbrev pub with_record : State → ℕ → Record → State
with_record w n r = record w { objects = set_value (nat_eq n) w.objects r }

-- the world without object n
abbrev pub without_object : State → ℕ → State
without_object w n = record w { objects = remove_entry (nat_eq n) w.objects }

-- the world with object n at this place
abbrev pub with_place : State → ℕ → ℕ → State
with_place w n place = with_record_changed w n (λ r. record r { kind = kind_at place r.kind })

-- the world with this key for object n, or none
abbrev pub with_key : State → ℕ → Option (Tree ℕ) → State
with_key w n key = with_record_changed w n (λ r. record r { key = key })

-- the world with this key for object n
abbrev pub with_lock : State → ℕ → Tree ℕ → State
with_lock w n key = with_key w n (Some key)

-- the world with this cost for the exit n
abbrev pub with_cost : State → ℕ → ℕ → State
with_cost w n cost = with_record_changed w n (λ r. record r { kind = kind_costing cost r.kind })

-- the world with these names for object n
abbrev pub with_names : State → ℕ → List (List ℕ) → State
with_names w n names = with_record_changed w n (λ r. record r { names = names })

-- this many new objects would exceed the number 8,191
abbrev pub is_full : State → ℕ → Bool
is_full w count = nat_lt NUMBERS (w.next + count)

-- the exit leaves the actor's room
abbrev pub leaves_from : State → ℕ → ℕ → Bool
leaves_from w actor exit = option_map_or (λ room. is_number room (source_of w exit)) (place_of w actor) false

-- a player has no key
abbrev pub IsKeyless : Record → Type 0
IsKeyless r = (place : ℕ) → r.kind ≡ Player place → r.key ≡ None

-- the key, if there is one, is within the limits of keys
abbrev pub IsLockedWell : Record → Type 0
IsLockedWell r = IfSome r.key IsKey

-- the key, if there is one, names only objects below this number
abbrev pub IsLockedBelow : ℕ → Record → Type 0
IsLockedBelow next r = IfSome r.key (AllObjects (λ o. o < next))

-- no two players share a name
abbrev pub AreNamedApart : State → Type 0
AreNamedApart w =
    (a b : ℕ) (r s : Record) → record_at w a ≡ Some r → record_at w b ≡ Some s → a ≢ b
    → IsTrue (is_player_kind r.kind) → IsTrue (is_player_kind s.kind) → shares r.names s.names ≡ false

-- the names of an exit back, if there is one
abbrev pub AreBackNames : Option (List (List ℕ)) → Type 0
AreBackNames back = IfSome back AreNames

-- the names of the exits of a dig
abbrev pub AreDoors : Option Doors → Type 0
AreDoors doors = IfSome doors (λ d. AreNames d.out × AreBackNames d.back)

-- each byte is from 32 to 126
abbrev pub is_printable : List ℕ → Bool
is_printable text = list_all (λ b. not (nat_lt b SPACE) && not (nat_lt TILDE b)) text

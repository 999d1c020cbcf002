-- The result of each kind of change.
use Rattle.std.specs.Prelude.{ℕ, ◌+◌, nat_eq, List, [], ◌∷◌, ◌++◌, length, Option, Some, None, unwrap_or}
use Rattle.std.specs.List.{enumerate_from}
use Rattle.std.specs.Option.{option_map_or}
use Rattle.std.specs.Map.{set_value, remove_entry}
use Rattle.mud_world.specs.declared.record.Kind.{Kind}
use Rattle.mud_world.specs.declared.record.Kind.TheVariants.{Room, Exit, Thing, Player as PlayerIn}
use Rattle.mud_world.specs.declared.record.Record.{Record}
use Rattle.mud_world.specs.declared.change.Change.{Change}
use Rattle.mud_world.specs.declared.change.Deed.{Deed}
use Rattle.mud_world.specs.declared.change.Deed.TheVariants.{Dig, Make, Lock, Unlock, Move, Walk, Cost, Player, Rename}
use Rattle.mud_world.specs.declared.change.Deed.TheVariants.{Recycle, Say, Emote}
use Rattle.mud_world.specs.declared.change.Target.{Target}
use Rattle.mud_world.specs.declared.change.Target.TheVariants.{New, Old}
use Rattle.mud_world.specs.declared.change.Doors.{Doors}
use Rattle.mud_world.specs.Kinds.{kind_at, kind_costing}
use Rattle.mud_world.specs.State.{State, record_at, place_of, destination_of}

-- ---- edits of a world

-- f changes the record of object n, if it exists
abbrev pub with_record_changed : State → ℕ → (Record → Record) → State
with_record_changed w n f =
    option_map_or (λ r. record w { objects = set_value (nat_eq n) w.objects (f r) }) (record_at w n) w

-- the world with these new objects, under the next numbers
abbrev pub with_new : State → List Record → State
with_new w rs = record { objects = w.objects ++ enumerate_from w.next rs; next = w.next + length rs }

-- ---- new objects

-- a new object is owned by its maker, and has no key
abbrev pub new_record : ℕ → List (List ℕ) → Kind → Record
new_record actor names kind = record { names = names; owner = actor; kind = kind; key = None }

-- a new exit costs 1
abbrev pub new_exit : ℕ → List (List ℕ) → ℕ → ℕ → Record
new_exit actor names source destination =
    new_record actor names (Exit (record { source = source; destination = destination; cost = 1 }))

-- an exit from here to there, and one back if it has names
abbrev pub new_exits : ℕ → ℕ → ℕ → Option Doors → List Record
new_exits actor here there None = []
new_exits actor here there (Some d) =
    new_exit actor d.out here there ∷ option_map_or (λ names. new_exit actor names there here ∷ []) d.back []

-- the objects that a dig adds: the room if it is a new one, and the exits between the actor's room and the target
abbrev pub dig_records : State → ℕ → Target → Option Doors → List Record
dig_records w actor (New names) doors =
    new_record actor names Room ∷ new_exits actor (unwrap_or (place_of w actor) 0) w.next doors
dig_records w actor (Old room) doors = new_exits actor (unwrap_or (place_of w actor) 0) room doors

-- ---- the table of results

-- the world after the actor's deed
abbrev pub deed_result : State → ℕ → Deed → State
deed_result w actor (Dig target doors) = with_new w (dig_records w actor target doors)
deed_result w actor (Make names) = with_new w (new_record actor names (Thing actor) ∷ [])
deed_result w actor (Player name) = with_new w (new_record actor (name ∷ []) (PlayerIn 0) ∷ [])
deed_result w actor (Lock object key) = with_record_changed w object (λ r. record r { key = Some key })
deed_result w actor (Unlock object) = with_record_changed w object (λ r. record r { key = None })
deed_result w actor (Move thing to) = with_record_changed w thing (λ r. record r { kind = kind_at to r.kind })
deed_result w actor (Walk exit) =
    option_map_or (λ room. with_record_changed w actor (λ r. record r { kind = kind_at room r.kind }))
    (destination_of w exit) w
deed_result w actor (Cost exit cost) = with_record_changed w exit (λ r. record r { kind = kind_costing cost r.kind })
deed_result w actor (Rename object names) = with_record_changed w object (λ r. record r { names = names })
deed_result w actor (Recycle object) = record w { objects = remove_entry (nat_eq object) w.objects }
deed_result w actor (Say text) = w
deed_result w actor (Emote text) = w

-- the world after a change
abbrev pub after : State → Change → State
after w e = deed_result w e.actor e.deed

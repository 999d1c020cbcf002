-- The kinds of objects, and the data of each.
use Rattle.std.specs.Prelude.{ℕ, nat_eq, ◌||◌, Bool, true, false, Option, Some, None}
use Rattle.mud_world.specs.declared.record.Passage.{Passage}
use Rattle.mud_world.specs.declared.record.Kind.{Kind}
use Rattle.mud_world.specs.declared.record.Kind.TheVariants.{Room, Exit, Thing, Player}

abbrev pub is_room_kind : Kind → Bool
is_room_kind Room = true
is_room_kind other = false

-- an exit
abbrev pub is_exit_kind : Kind → Bool
is_exit_kind (Exit p) = true
is_exit_kind other = false

abbrev pub is_thing_kind : Kind → Bool
is_thing_kind (Thing place) = true
is_thing_kind other = false

abbrev pub is_player_kind : Kind → Bool
is_player_kind (Player place) = true
is_player_kind other = false

-- things and players have a place
abbrev pub kind_place : Kind → Option ℕ
kind_place (Thing place) = Some place
kind_place (Player place) = Some place
kind_place other = None

-- exits have two ends and a cost
abbrev pub kind_passage : Kind → Option Passage
kind_passage (Exit p) = Some p
kind_passage other = None

-- a thing or a player moved to this place; rooms and exits stay as they are
abbrev pub kind_at : ℕ → Kind → Kind
kind_at place (Thing old) = Thing place
kind_at place (Player old) = Player place
kind_at place other = other

-- an exit with this cost; other kinds stay as they are
abbrev pub kind_costing : ℕ → Kind → Kind
kind_costing cost (Exit p) = Exit (record p { cost = cost })
kind_costing cost other = other

-- an object of this kind lies in n, or has n as an end
abbrev pub kind_needs : ℕ → Kind → Bool
kind_needs n Room = false
kind_needs n (Exit p) = nat_eq n p.source || nat_eq n p.destination
kind_needs n (Thing place) = nat_eq n place
kind_needs n (Player place) = nat_eq n place

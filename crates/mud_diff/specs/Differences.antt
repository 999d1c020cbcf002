-- The differences of two worlds.
use Rattle.std.specs.Prelude.{◌≡◌, ◌≢◌, ℕ, ◌<◌, ◌⊎◌, ◌↔◌, List, AllPairs, Contains, Option, Some, None}
use Rattle.std.specs.Option.{option_map}
use Rattle.mud_world.specs.Kinds.{kind_place, kind_passage}
use Rattle.mud_world.specs.State.{State, record_at}
use Rattle.mud_world.specs.declared.record.Kind.{Kind}
use Rattle.mud_world.specs.declared.record.Kind.TheVariants as kinds
use Rattle.mud_world.specs.declared.record.Record.{Record}
use Rattle.mud_diff.specs.declared.difference.What.{What}
use Rattle.mud_diff.specs.declared.difference.What.TheVariants.{Added, Removed, Names, Owner, Kind as KindOf, Place}
use Rattle.mud_diff.specs.declared.difference.What.TheVariants.{Source, Destination, Cost, Key}
use Rattle.mud_diff.specs.declared.difference.Difference.{Difference}

-- objects of one kind
abbrev pub AreAlike : Kind → Kind → Type 0
AreAlike kinds.Room kinds.Room = Unit {0}
AreAlike (kinds.Exit p) (kinds.Exit q) = Unit {0}
AreAlike (kinds.Thing p) (kinds.Thing q) = Unit {0}
AreAlike (kinds.Player p) (kinds.Player q) = Unit {0}
AreAlike kind other = ⊥

-- the room that an exit leaves, the room that it leads to, and its cost; other kinds have none
abbrev pub source_in : Record → Option ℕ
source_in r = option_map (λ p. p.source) (kind_passage r.kind)

abbrev pub destination_in : Record → Option ℕ
destination_in r = option_map (λ p. p.destination) (kind_passage r.kind)

abbrev pub cost_in : Record → Option ℕ
cost_in r = option_map (λ p. p.cost) (kind_passage r.kind)

-- the objects of a number in the old and the new world differ in this field
abbrev pub DiffersIn : What → Option Record → Option Record → Type 0
DiffersIn Added None (Some s) = Unit {0}
DiffersIn Removed (Some r) None = Unit {0}
DiffersIn Names (Some r) (Some s) = r.names ≢ s.names
DiffersIn Owner (Some r) (Some s) = r.owner ≢ s.owner
DiffersIn KindOf (Some r) (Some s) = AreAlike r.kind s.kind → ⊥
DiffersIn Place (Some r) (Some s) = kind_place r.kind ≢ kind_place s.kind
DiffersIn Source (Some r) (Some s) = source_in r ≢ source_in s
DiffersIn Destination (Some r) (Some s) = destination_in r ≢ destination_in s
DiffersIn Cost (Some r) (Some s) = cost_in r ≢ cost_in s
DiffersIn Key (Some r) (Some s) = r.key ≢ s.key
DiffersIn what old new = ⊥

-- the worlds differ so
abbrev pub Differs : State → State → Difference → Type 0
Differs old new d = DiffersIn d.what (record_at old d.number) (record_at new d.number)

-- the place in a list of the differences of one object
abbrev pub order : What → ℕ
order Added = 0
order Removed = 1
order Names = 2
order Owner = 3
order KindOf = 4
order Place = 5
order Source = 6
order Destination = 7
order Cost = 8
order Key = 9

-- a lower number, or the same object and an earlier place
abbrev pub IsBefore : Difference → Difference → Type 0
IsBefore d e = (d.number < e.number) ⊎ ((d.number ≡ e.number) × (order d.what < order e.what))

-- exactly the differences of the worlds, each once, by rising number
pub record AreDifferences (old new : State) (ds : List Difference) : Type 0 where
  pub exact : (d : Difference) → Contains ds d ↔ Differs old new d
  pub ordered : AllPairs IsBefore ds

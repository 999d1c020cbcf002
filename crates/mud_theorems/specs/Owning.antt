-- How a change may leave an object that its actor does not own.
use Rattle.std.specs.Prelude.{◌≡◌, ℕ, Bool, false, ◌==◌, Some}
use Rattle.mud_world.specs.declared.record.Record.{Record}
use Rattle.mud_world.specs.declared.change.Deed.{Deed}
use Rattle.mud_world.specs.declared.change.Deed.TheVariants.{Move, Walk}
use Rattle.mud_world.specs.Kinds.{kind_at}
use Rattle.mud_world.specs.State.{State, record_at}

-- the deed moves object o: its actor walks, or it is a thing that is moved
abbrev pub moves : ℕ → Deed → ℕ → Bool
moves actor (Walk exit) o = o == actor
moves actor (Move thing to) o = o == thing
moves actor deed o = false

-- the object has a place, and otherwise its record is still this one
abbrev pub IsMoved : State → ℕ → Record → Type 0
IsMoved w o r = (to : ℕ) × (record_at w o ≡ Some (record r { kind = kind_at to r.kind }))

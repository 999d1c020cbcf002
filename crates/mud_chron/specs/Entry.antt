-- Entries of a history.
pub use Rattle.mud_world.specs.Numbers.{IsNumber}
pub use Rattle.mud_world.specs.DeedParts.{IsTarget, HasParts}
use Rattle.std.specs.Prelude.{ℕ, ◌≤◌, Some, None}
use Rattle.mud_world.specs.declared.change.Change.{Change}
use Rattle.mud_world.specs.declared.change.Target.TheVariants.{Old}
use Rattle.mud_world.specs.declared.change.Deed.{Deed}
use Rattle.mud_world.specs.declared.change.Deed.TheVariants.{Dig, Lock, Unlock, Move, Walk, Cost, Rename}
use Rattle.mud_world.specs.declared.change.Deed.TheVariants.{Recycle}
use Rattle.mud_world.specs.declared.limits.TheConstants.{MOST_COST}
use Rattle.mud_chron.specs.declared.limits.TheConstants.{MOST_DESKS}

-- an accepted change, and the number of the desk that made it
pub record Entry : Type 0 where
  pub desk : ℕ
  pub change : Change

-- the numbers of a deed are in their ranges, and a dig to an existing room has an exit
abbrev pub IsInRange : Deed → Type 0
IsInRange (Dig (Old room) (Some doors)) = IsNumber room
IsInRange (Dig (Old room) None) = ⊥
IsInRange (Lock object key) = IsNumber object
IsInRange (Unlock object) = IsNumber object
IsInRange (Move thing to) = IsNumber thing × IsNumber to
IsInRange (Walk exit) = IsNumber exit
IsInRange (Cost exit cost) = IsNumber exit × (cost ≤ MOST_COST)
IsInRange (Rename object names) = IsNumber object
IsInRange (Recycle object) = IsNumber object
IsInRange other = Unit {0}

-- an entry that a text can spell: the desk is 1 to 64, and all other numbers are in their ranges
pub record IsSpellable (desk : ℕ) (change : Change) : Type 0 where
  pub desk_from : 1 ≤ desk
  pub desk_to : desk ≤ MOST_DESKS
  pub actor : IsNumber change.actor
  pub deed : IsInRange change.deed

-- the invariant of every entry
pub record IsEntry (e : Entry) : Type 0 where
  pub spellable : IsSpellable e.desk e.change
  pub parts : HasParts e.change.deed

-- The refusals in rising order.
use Rattle.std.specs.Prelude.{List, [], ◌∷◌}
use Rattle.mud_world.specs.declared.refusal.Refusal.{Refusal}
use Rattle.mud_world.specs.declared.refusal.Refusal.TheVariants.{NoSuch, WrongKind, NotHere, Denied, BadName, NameTaken}
use Rattle.mud_world.specs.declared.refusal.Refusal.TheVariants.{BadKey, KeyNesting, BadCost, RecursiveMove, LockedExit}
use Rattle.mud_world.specs.declared.refusal.Refusal.TheVariants.{LockedRoom, LockedThing, InUse, WorldFull}

-- the refusals of changes, in rising order
abbrev pub refusals : List Refusal
refusals =
    NoSuch ∷ WrongKind ∷ NotHere ∷ Denied ∷ BadName ∷ NameTaken ∷ BadKey ∷ KeyNesting ∷ BadCost ∷ RecursiveMove
    ∷ LockedExit ∷ LockedRoom ∷ LockedThing ∷ InUse ∷ WorldFull ∷ []

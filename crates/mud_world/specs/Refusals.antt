-- Refusals: their numbers, and the lesser of two.
use Rattle.std.specs.Prelude.{ℕ, Bool, true, false, nat_lt, Option, Some, None, if◌then◌else◌}
use Rattle.mud_world.specs.declared.refusal.Refusal.{Refusal}
use Rattle.mud_world.specs.declared.refusal.Refusal.TheVariants.{NotUnderstood, NoSuch, Ambiguous, WrongKind, NotHere}
use Rattle.mud_world.specs.declared.refusal.Refusal.TheVariants.{Denied, BadName, NameTaken, BadKey, KeyNesting}
use Rattle.mud_world.specs.declared.refusal.Refusal.TheVariants.{BadCost, RecursiveMove, LockedExit, LockedRoom}
use Rattle.mud_world.specs.declared.refusal.Refusal.TheVariants.{LockedThing, InUse, WorldFull, PartyBad}

abbrev pub number : Refusal → ℕ
number NotUnderstood = 1
number NoSuch = 2
number Ambiguous = 3
number WrongKind = 4
number NotHere = 5
number Denied = 6
number BadName = 7
number NameTaken = 8
number BadKey = 9
number KeyNesting = 10
number BadCost = 11
number RecursiveMove = 12
number LockedExit = 13
number LockedRoom = 14
number LockedThing = 15
number InUse = 16
number WorldFull = 17
number PartyBad = 18

-- the refusal with the lower number, if there is one
abbrev pub lesser : Option Refusal → Option Refusal → Option Refusal
lesser None g = g
lesser (Some f) None = Some f
lesser (Some f) (Some g) = if nat_lt (number g) (number f) then Some g else Some f

-- the refusal, if its condition holds
abbrev pub refused_if : Bool → Refusal → Option Refusal
refused_if true f = Some f
refused_if false f = None

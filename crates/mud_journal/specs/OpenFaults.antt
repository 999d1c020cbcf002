-- The reasons why the bytes of a file are not a journal to continue.
use Rattle.std.specs.Prelude.{ℕ, ◌<◌, List, Option, IfSome}
use Rattle.mud_world.specs.declared.limits.TheConstants.{MOST_ENTRIES}
use Rattle.mud_chron.specs.declared.format.Format.TheVariants.{One}
use Rattle.mud_chron.specs.Entry.{Entry}
use Rattle.mud_chron.specs.History.{SpellsHistory}
use Rattle.mud_chron.specs.Faults.{IsNoHistory, IsTooLong, HasOtherLine}
use Rattle.mud_chron.specs.Fronts.{Recovers}
use Rattle.mud_chron.specs.Zeros.{up_to_zero}
use Rattle.mud_journal.specs.Found.{IsBlank}
use Rattle.mud_journal.specs.declared.fault.OpenFault.{OpenFault}
use Rattle.mud_journal.specs.declared.fault.OpenFault.TheVariants.{OutOfMemory, NotHistory, Whole, Old, Line, TooLong}
use Rattle.mud_journal.specs.declared.fault.OpenFault.TheVariants.{File}

-- the fault of the bytes before the first zero, unless memory ran out; a file has further faults, which its bytes do
-- not show
abbrev pub IsRefusedIn : List ℕ → OpenFault → Type 0
IsRefusedIn bytes OutOfMemory = Unit {0}
IsRefusedIn bytes NotHistory = IsNoHistory bytes
IsRefusedIn bytes Whole = (entries : List Entry) × SpellsHistory bytes entries
IsRefusedIn bytes Old = (entries : List Entry) × (keep : ℕ) × Recovers bytes One entries keep
IsRefusedIn bytes (Line n) = HasOtherLine bytes n
IsRefusedIn bytes TooLong = IsTooLong bytes
IsRefusedIn bytes other = ⊥

-- the fault of bytes in which a journal, or something else, was begun
abbrev pub IsRefusedAs : List ℕ → OpenFault → Type 0
IsRefusedAs bytes NotHistory = IsNoHistory bytes × (IsBlank bytes → ⊥)
IsRefusedAs bytes fault = IsRefusedIn (up_to_zero bytes) fault

-- the fault of a reader's bytes, as far as they are known, or of a read
abbrev pub IsUnfoundAs : Option (List ℕ) → OpenFault → Type 0
IsUnfoundAs known OutOfMemory = Unit {0}
IsUnfoundAs known (File why) = Unit {0}
IsUnfoundAs known fault = IfSome known (λ bytes. IsRefusedAs bytes fault)

-- the reason why no journal of this many entries is begun
abbrev pub IsBeginFault : ℕ → OpenFault → Type 0
IsBeginFault count OutOfMemory = Unit {0}
IsBeginFault count (File why) = Unit {0}
IsBeginFault count TooLong = MOST_ENTRIES < count
IsBeginFault count other = ⊥

-- The least number with a property, and the results of scanning the desks of a hall once its history is gathered.
use Rattle.std.specs.Prelude.{◌≡◌, ℕ, ◌+◌, ◌≤◌, List, Option, Some, None, Any, nat_lt, if◌then◌else◌, slice_get}
use Rattle.mud_chron.specs.Entry.{Entry}
use Rattle.mud_hall.specs.declared.fault.CloseFault.{CloseFault}
use Rattle.mud_hall.specs.declared.fault.CloseFault.TheVariants.{OutOfMemory, SameNumber, Missing, Mismatch}
use Rattle.mud_hall.specs.Desk.{View}
use Rattle.mud_hall.specs.Settlement.{versions_by, first_apart, HasNumber, AreApart, HaveSameNumber, IsMissing}
use Rattle.mud_hall.specs.Settlement.{IsAtOdds}

-- the lesser of two numbers; None is greater than every number
abbrev pub lesser_of : Option ℕ → Option ℕ → Option ℕ
lesser_of None b = b
lesser_of (Some v) None = Some v
lesser_of (Some v) (Some w) = Some (if nat_lt v w then v else w)

-- the least number with a property, or None if no number has it
abbrev pub IsLeast : (ℕ → Type 0) → Option ℕ → Type 0
IsLeast P None = (u : ℕ) → P u → ⊥
IsLeast P (Some v) = P v × ((u : ℕ) → P u → v ≤ u)

-- the calls of some desk and the entries with its number first differ at the version
abbrev pub Differs : List View → ℕ → List Entry → ℕ → Type 0
Differs desks first entries v =
    Any (λ d. first_apart d.state.calls (versions_by d.state.number first entries) ≡ Some v) desks

-- the entry with the version has the number of no desk
abbrev pub IsUnnamed : List View → ℕ → List Entry → ℕ → Type 0
IsUnnamed desks first entries v =
    (i : ℕ) × (e : Entry) × (v ≡ first + i) × (slice_get entries i ≡ Some e) × (HasNumber desks e.desk → ⊥)

-- the reason why the desks did not make the entries
abbrev pub IsCheckFault : List View → ℕ → List Entry → CloseFault → Type 0
IsCheckFault desks first entries OutOfMemory = Unit {0}
IsCheckFault desks first entries (SameNumber n) = IsLeast (HaveSameNumber desks) (Some n)
IsCheckFault desks first entries (Missing n) = AreApart desks × IsMissing desks n
IsCheckFault desks first entries (Mismatch v) = AreApart desks × IsLeast (IsAtOdds desks first entries) (Some v)

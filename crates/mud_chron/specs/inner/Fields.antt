-- Results of the field readers. Each finds the value whose spelling is given, and may find one in other texts too. An
-- entry counts only if its line is exactly the given one.
use Rattle.std.specs.Prelude.{◌≡◌, ℕ, ◌+◌, ◌-◌, ◌*◌, nat_eq, nat_lt, nat_le, Bool, ◌&&◌, if◌then◌else◌, List}
use Rattle.std.specs.Prelude.{[], ◌∷◌, codes}
use Rattle.std.specs.Prelude.{Option, None, Some, Result, Ok, Err}
use Rattle.std.specs.List.{join_by}
use Rattle.mud_key.specs.declared.codes.TheConstants.{SHARP, ZERO, NINE}
use Rattle.mud_key.specs.declared.limits.TheConstants.{LAST_NUMBER}
use Rattle.mud_chron.specs.declared.fields.TheConstants.{ROOM_FOR_A_DIGIT}
use Rattle.mud_chron.specs.declared.fields.Unread.{Unread}
use Rattle.mud_chron.specs.declared.fields.Unread.TheVariants.{OutOfMemory}

-- the call returned this number, or an error if there is none
abbrev pub Gives : Result ℕ Unread → Option ℕ → Type 0
Gives (Ok n) found = found ≡ Some n
Gives (Err fault) found = found ≡ None

-- unless memory ran out, the call found a value that passes the test
abbrev pub Finds : {X : Type 0} → (X → Type 0) → Result X Unread → Type 0
Finds P (Ok x) = P x
Finds P (Err fault) = fault ≡ OutOfMemory

-- the names separated by commas
abbrev pub with_commas : List (List ℕ) → List ℕ
with_commas names = join_by (λ name. name) (codes ",") names

-- ---- numbers, which a namer has to find in any text

-- a digit
abbrev pub is_digit : ℕ → Bool
is_digit b = nat_le ZERO b && nat_le b NINE

-- the number continued by these digits, with at most nine in all
abbrev pub digits_on : ℕ → List ℕ → Option ℕ
digits_on n [] = Some n
digits_on n (b ∷ text) = if is_digit b && nat_lt n ROOM_FOR_A_DIGIT then digits_on (n * 10 + (b - ZERO)) text else None

-- the number if it is at most this
abbrev pub up_to : ℕ → Option ℕ → Option ℕ
up_to most None = None
up_to most (Some n) = if nat_le n most then Some n else None

-- the number of an object, up to 8,191, after a sharp
abbrev pub object_in : List ℕ → Option ℕ
object_in [] = None
object_in (b ∷ digits) = if nat_eq b SHARP then up_to LAST_NUMBER (digits_on 0 digits) else None

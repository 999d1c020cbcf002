-- The result of each reader of a line. Text defines the spellings.
use Rattle.std.specs.Prelude.{ℕ, zero, suc, ◌+◌, ◌-◌, ◌*◌, ◌==◌, nat_lt, nat_le, Bool, true, ◌&&◌, if◌then◌else◌}
use Rattle.std.specs.Prelude.{List, [], ◌∷◌, length, Option, None, Some, codes}
use Rattle.std.specs.Str.{bytes_eq}
use Rattle.mud_key.specs.declared.codes.TheConstants.{ZERO, NINE}
use Rattle.mud_key.specs.declared.limits.TheConstants.{LAST_NUMBER}
use Rattle.mud_roads.specs.declared.label.Label.{Label}
use Rattle.mud_key.specs.declared.limits.TheConstants.{AMOUNTS}
use Rattle.mud_cert.specs.declared.cert.Form.{Form}
use Rattle.mud_cert.specs.declared.cert.Form.TheVariants.{One, Two}
use Rattle.mud_cert.specs.declared.cert.Conclusion.{Conclusion}
use Rattle.mud_cert.specs.declared.cert.Conclusion.TheVariants.{Route, Meet}

-- the result of the first is passed to the second
infixl 10 ◌>>=◌
abbrev pub ◌>>=◌ : {A B : Type 0} → Option A → (A → Option B) → Option B
(Some x) >>= f = f x
None >>= f = None

-- ---- numbers

-- a byte that is a digit
abbrev pub is_digit : ℕ → Bool
is_digit b = nat_le ZERO b && nat_le b NINE

-- the number continued by the leading digits, and the bytes after them
abbrev pub digits_on : ℕ → List ℕ → ℕ × List ℕ
digits_on n [] = (n, [])
digits_on n (b ∷ bs) = if is_digit b then digits_on (n * 10 + (b - ZERO)) bs else (n, b ∷ bs)

-- the number, if it has at most nine digits
abbrev pub small : ℕ × List ℕ → Option (ℕ × List ℕ)
small p = if nat_lt p.0 AMOUNTS then Some p else None

-- a number of at most nine digits without leading zeros
unfoldable pub number_at : List ℕ → Option (ℕ × List ℕ)
number_at [] = None
number_at (b ∷ bs) = if b == ZERO then Some (0, bs) else if is_digit b then small (digits_on (b - ZERO) bs) else None

-- the number of an object
unfoldable pub object_at : List ℕ → Option (ℕ × List ℕ)
object_at bytes = do
  n ← number_at bytes
  if nat_le n.0 LAST_NUMBER then Some n else None

-- ---- pieces

-- the bytes after the literal text
unfoldable pub after : List ℕ → List ℕ → Option (List ℕ)
after [] bytes = Some bytes
after (c ∷ cs) [] = None
after (c ∷ cs) (b ∷ bs) = if b == c then after cs bs else None

-- the value, if no bytes follow it
unfoldable pub whole : {A : Type 0} → A × List ℕ → Option A
whole (x, []) = Some x
whole (x, b ∷ bs) = None

-- the pieces up to the end of the bytes; at most as many as there are bytes
unfoldable pub pieces_at : {A : Type 0} → (List ℕ → Option (A × List ℕ)) → ℕ → List ℕ → Option (List A)
pieces_at piece_at count [] = Some []
pieces_at piece_at zero (b ∷ bs) = None
pieces_at piece_at (suc count) (b ∷ bs) = do
  x ← piece_at (b ∷ bs)
  xs ← pieces_at piece_at count x.1
  Some (x.0 ∷ xs)

-- ---- lines

-- the form, of the first line
unfoldable pub head_at : List ℕ → Option Form
head_at line =
    if bytes_eq line (codes "mud proof 1") then Some One
    else if bytes_eq line (codes "mud proof 2") then Some Two else None

-- the version, of the second line
unfoldable pub version_at : List ℕ → Option ℕ
version_at line = do
  rest ← after (codes "version ") line
  n ← number_at rest
  whole n

-- a player and its place, of a member's first line
unfoldable pub member_at : List ℕ → Option (ℕ × ℕ)
member_at line = do
  rest ← after (codes "member #") line
  player ← object_at rest
  behind ← after (codes " from #") player.1
  from ← object_at behind
  whole ((player.0, from.0), from.1)

-- the number of exits of a label, which form one leaves out
unfoldable pub exits_at : Form → List ℕ → Option (ℕ × List ℕ)
exits_at One bytes = Some (0, bytes)
exits_at Two bytes = do
  rest ← after (codes "/") bytes
  number_at rest

-- a room and its label
unfoldable pub entry_at : Form → List ℕ → Option ((ℕ × Label) × List ℕ)
entry_at form bytes = do
  rest ← after (codes " #") bytes
  room ← object_at rest
  behind ← after (codes ":") room.1
  cost ← number_at behind
  exits ← exits_at form cost.1
  Some ((room.0, record { cost = cost.0; exits = exits.0 }), exits.1)

-- the room is above the one before it
abbrev pub is_above : Option ℕ → ℕ → Bool
is_above None room = true
is_above (Some last) room = nat_lt last room

abbrev pub rises : Option ℕ → List (ℕ × Label) → Bool
rises last [] = true
rises last (e ∷ es) = is_above last e.0 && rises (Some e.0) es

-- sorted labels, of a member's second line
unfoldable pub labels_at : Form → List ℕ → Option (List (ℕ × Label))
labels_at form line = do
  rest ← after (codes "labels") line
  labels ← pieces_at (entry_at form) (length rest) rest
  if rises None labels then Some labels else None

-- an exit of a walk
unfoldable pub exit_at : List ℕ → Option (ℕ × List ℕ)
exit_at bytes = do
  rest ← after (codes " #") bytes
  object_at rest

-- the exits of a non-empty walk
unfoldable pub exits_of : List ℕ → Option (Option (List ℕ))
exits_of [] = None
exits_of (b ∷ bs) = do
  exits ← pieces_at exit_at (length (b ∷ bs)) (b ∷ bs)
  Some (Some exits)

-- a walk, of a member's third line
unfoldable pub walk_at : List ℕ → Option (Option (List ℕ))
walk_at line =
    if bytes_eq line (codes "walk none") then Some None
    else if bytes_eq line (codes "walk nothing") then Some (Some [])
    else after (codes "walk") line >>= exits_of

-- the end of a route's line
unfoldable pub cost_at : List ℕ → Option ℕ
cost_at bytes = do
  rest ← after (codes " cost ") bytes
  cost ← number_at rest
  whole cost

-- the cost of a route to a room, or that there is no way
unfoldable pub way_at : ℕ → List ℕ → Option Conclusion
way_at to bytes =
    if bytes_eq bytes (codes " no way") then Some (Route to None)
    else cost_at bytes >>= λ cost. Some (Route to (Some cost))

-- the target and the cost of a route
unfoldable pub route_at : List ℕ → Option Conclusion
route_at line = do
  rest ← after (codes "route #") line
  to ← object_at rest
  way_at to.0 to.1

-- the room and the cost of a meeting
unfoldable pub meeting_at : List ℕ → Option Conclusion
meeting_at line = do
  rest ← after (codes "meet #") line
  room ← object_at rest
  cost ← cost_at room.1
  Some (Meet (Some (record { room = room.0; cost = cost })))

-- the first one that exists
abbrev pub either : {A : Type 0} → Option A → Option A → Option A
either (Some x) other = Some x
either None other = other

-- a conclusion, of the last line but one
unfoldable pub conclusion_at : List ℕ → Option Conclusion
conclusion_at line =
    if bytes_eq line (codes "meet none") then Some (Meet None)
    else either (route_at line) (meeting_at line)

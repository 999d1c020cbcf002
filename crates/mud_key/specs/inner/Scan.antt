-- The part of the machine that the scan keeps: its position and its counts. proofs/Scanned.antt ties it to the grammar
-- of key texts.
use Rattle.std.specs.Prelude.{ℕ, ◌+◌, ◌-◌, ◌≡◌, Option, Some, None, List, [], ◌∷◌, length, nat_lt, nat_eq}
use Rattle.std.specs.Prelude.{if◌then◌else◌, Bool, true, false, ◌&&◌}
use Rattle.mud_key.specs.declared.limits.TheConstants.{MOST_DIGITS}
use Rattle.mud_key.specs.declared.operator.Operator.{Operator}
use Rattle.mud_key.specs.declared.operator.Operator.TheVariants.{And, Or}
use Rattle.mud_key.specs.declared.class.Class.{Class}
use Rattle.mud_key.specs.declared.class.Class.TheVariants.{Space, Digit, Letter, Sharp, Bang, Question, Open, Close}
use Rattle.mud_key.specs.declared.class.Class.TheVariants.{Ampersand, Bar}
use Rattle.mud_key.specs.declared.stage.Stage.{Stage}
use Rattle.mud_key.specs.declared.stage.Stage.TheVariants as stage
use Rattle.mud_key.specs.declared.scan.Scan.{Scan}
use Rattle.mud_key.specs.Tree.{objects_of, nots_of}
use Rattle.mud_key.specs.inner.Machine.{Reading, Front, Mode, Operand, Asked, Number, Named, After, Half}

-- the position of the machine, without the text that it read
abbrev pub place_of : Mode → Stage
place_of (Operand f) = stage.Operand
place_of (Asked f) = stage.Asked
place_of (Number f a ds) = stage.Number (length ds)
place_of (Named f a text n) = stage.Named
place_of (After t) = stage.After
place_of (Half t op) = stage.Half op

-- the number of objects in the chain of a context
abbrev pub chain_objects : Option (Reading × Operator) → ℕ
chain_objects None = 0
chain_objects (Some c) = objects_of c.0

-- the number of `!` in the chain of a context
abbrev pub chain_nots : Option (Reading × Operator) → ℕ
chain_nots None = 0
chain_nots (Some c) = nots_of c.0

-- the number of `!` before a unary
abbrev pub front_nots : Front → ℕ
front_nots f = chain_nots f.chain + f.nots

-- the number of objects inside the innermost parenthesis so far
abbrev pub mode_objects : Mode → ℕ
mode_objects (Operand f) = chain_objects f.chain
mode_objects (Asked f) = chain_objects f.chain
mode_objects (Number f a ds) = chain_objects f.chain + 1
mode_objects (Named f a text n) = chain_objects f.chain + 1
mode_objects (After t) = objects_of t
mode_objects (Half t op) = objects_of t

-- the number of `!` inside the innermost parenthesis so far
abbrev pub mode_nots : Mode → ℕ
mode_nots (Operand f) = front_nots f
mode_nots (Asked f) = front_nots f
mode_nots (Number f a ds) = front_nots f
mode_nots (Named f a text n) = front_nots f
mode_nots (After t) = nots_of t
mode_nots (Half t op) = nots_of t

-- the number of objects before the open parentheses
abbrev pub outer_objects : List Front → ℕ
outer_objects [] = 0
outer_objects (f ∷ outer) = outer_objects outer + chain_objects f.chain

-- the number of `!` before the open parentheses
abbrev pub outer_nots : List Front → ℕ
outer_nots [] = 0
outer_nots (f ∷ outer) = outer_nots outer + front_nots f

-- the scan of a state of the machine
abbrev pub scan_of : List Front → Mode → Scan
scan_of outer m = record {
  depth = length outer;
  place = place_of m;
  objects = outer_objects outer + mode_objects m;
  nots = outer_nots outer + mode_nots m;
}

-- the scan after one more byte, after a chain
abbrev pub after_next : Scan → Class → Option Scan
after_next s Space = Some (record s { place = stage.After })
after_next s Ampersand = Some (record s { place = stage.Half And })
after_next s Bar = Some (record s { place = stage.Half Or })
after_next s Close = if nat_lt 0 s.depth then Some (record s { depth = s.depth - 1; place = stage.After }) else None
after_next s _ = None

-- the scan after one more byte, where a unary is expected
abbrev pub operand_next : Scan → Class → Option Scan
operand_next s Space = Some (record s { place = stage.Operand })
operand_next s Bang = Some (record s { place = stage.Operand; nots = s.nots + 1 })
operand_next s Question = Some (record s { place = stage.Asked })
operand_next s Open = Some (record s { depth = s.depth + 1; place = stage.Operand })
operand_next s Sharp = Some (record s { place = stage.Number 0; objects = s.objects + 1 })
operand_next s Digit = Some (record s { place = stage.Named; objects = s.objects + 1 })
operand_next s Letter = Some (record s { place = stage.Named; objects = s.objects + 1 })
operand_next s _ = None

-- the scan after one more byte, where an object is expected
abbrev pub asked_next : Scan → Class → Option Scan
asked_next s Space = Some (record s { place = stage.Asked })
asked_next s Sharp = Some (record s { place = stage.Number 0; objects = s.objects + 1 })
asked_next s Digit = Some (record s { place = stage.Named; objects = s.objects + 1 })
asked_next s Letter = Some (record s { place = stage.Named; objects = s.objects + 1 })
asked_next s _ = None

-- the scan after one more byte, after a sharp and n digits
abbrev pub number_next : Scan → ℕ → Class → Option Scan
number_next s n Digit = if nat_lt n MOST_DIGITS then Some (record s { place = stage.Number (n + 1) }) else None
number_next s n k = if nat_lt 0 n then after_next s k else None

-- the scan after one more byte, after a name
abbrev pub named_next : Scan → Class → Option Scan
named_next s Space = Some (record s { place = stage.Named })
named_next s Digit = Some (record s { place = stage.Named })
named_next s Letter = Some (record s { place = stage.Named })
named_next s Sharp = Some (record s { place = stage.Named })
named_next s k = after_next s k

-- the scan after one more byte, after a chain and half an operator
abbrev pub half_next : Scan → Operator → Class → Option Scan
half_next s And Ampersand = Some (record s { place = stage.Operand })
half_next s Or Bar = Some (record s { place = stage.Operand })
half_next s op k = None

-- the scan after one more byte, from a position
abbrev pub place_next : Scan → Stage → Class → Option Scan
place_next s stage.Operand k = operand_next s k
place_next s stage.Asked k = asked_next s k
place_next s (stage.Number n) k = number_next s n k
place_next s stage.Named k = named_next s k
place_next s stage.After k = after_next s k
place_next s (stage.Half op) k = half_next s op k

-- the scan after one more byte, at any position
abbrev pub scan_next : Scan → Class → Option Scan
scan_next s k = place_next s s.place k

-- true if a chain may end here
abbrev pub is_whole_place : Stage → Bool
is_whole_place stage.Operand = false
is_whole_place stage.Asked = false
is_whole_place (stage.Number n) = nat_lt 0 n
is_whole_place stage.Named = true
is_whole_place stage.After = true
is_whole_place (stage.Half op) = false

-- true if a key text may end here
abbrev pub is_whole : Scan → Bool
is_whole s = nat_eq s.depth 0 && is_whole_place s.place

-- the counts of the scan are those of the key
pub record Counts (s : Scan) (key : Reading) : Type 0 where
  pub objects : s.objects ≡ objects_of key
  pub nots : s.nots ≡ nots_of key

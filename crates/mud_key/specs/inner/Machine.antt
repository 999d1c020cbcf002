-- A state machine that reads a key text byte by byte. Private clauses cite it, and `key_in` in Finds.antt computes with
-- it. The law `laws::key` ties that to the grammar of key texts.
use Rattle.std.specs.Prelude.{ℕ, zero, suc, Bool, true, false, Option, Some, None, List, [], ◌∷◌, ◌++◌, length}
use Rattle.std.specs.Prelude.{replicate}
use Rattle.std.specs.Prelude.{nat_lt, if◌then◌else◌}
use Rattle.mud_key.specs.declared.codes.TheConstants.{SPACE, SHARP}
use Rattle.mud_key.specs.declared.limits.TheConstants.{MOST_DIGITS}
use Rattle.mud_key.specs.inner.Class.{class_of}
use Rattle.mud_key.specs.Tree.{Tree, Has, Asks, Not, Join}
use Rattle.mud_key.specs.declared.operator.Operator.{Operator}
use Rattle.mud_key.specs.declared.operator.Operator.TheVariants.{And, Or}
use Rattle.mud_key.specs.declared.class.Class.{Class}
use Rattle.mud_key.specs.declared.class.Class.TheVariants.{Space, Digit, Letter, Sharp, Bang, Question, Open, Close}
use Rattle.mud_key.specs.declared.class.Class.TheVariants.{Ampersand, Bar}

-- a key as it is written
abbrev pub Reading : Type 0
Reading = Tree (List ℕ)

-- the context of the next unary: a chain with its operator, and a number of `!`
pub record Front : Type 0 where
  pub chain : Option (Reading × Operator)
  pub nots : ℕ

-- the empty context
abbrev pub bare : Front
bare = record { chain = None; nots = 0 }

-- the unary after n times `!`
abbrev pub with_nots : ℕ → Reading → Reading
with_nots zero k = k
with_nots (suc n) k = with_nots n (Not k)

-- the chain that a unary ends
abbrev pub end_chain : Option (Reading × Operator) → Reading → Reading
end_chain None k = k
end_chain (Some c) k = Join c.1 c.0 k

-- the chain that ends with this unary
abbrev pub extend_chain : Front → Reading → Reading
extend_chain f k = end_chain f.chain (with_nots f.nots k)

-- an object, or one after `?`
abbrev pub atom : Bool → List ℕ → Reading
atom true o = Asks o
atom false o = Has o

-- the position of the machine: a unary or, after `?`, an object is expected; after a sharp and digits; after a name and
-- n spaces; after a chain; or after half an operator
pub data Mode : Type 0 where
  Operand : Front → Mode
  Asked : Front → Mode
  Number : Front → Bool → List ℕ → Mode
  Named : Front → Bool → List ℕ → ℕ → Mode
  After : Reading → Mode
  Half : Reading → Operator → Mode

-- the state of the machine: the contexts of the open parentheses, the innermost first, and the position
abbrev pub MachineState : Type 0
MachineState = List Front × Mode

-- the state after one more byte, after a chain
abbrev pub after_step : List Front → Reading → Class → Option MachineState
after_step outer k Space = Some (outer, After k)
after_step outer k Ampersand = Some (outer, Half k And)
after_step outer k Bar = Some (outer, Half k Or)
after_step (f ∷ outer) k Close = Some (outer, After (extend_chain f k))
after_step outer k _ = None

-- the state after one more byte, after a chain and half an operator
abbrev pub half_step : List Front → Reading → Operator → Class → Option MachineState
half_step outer k And Ampersand = Some (outer, Operand (record { chain = Some (k, And); nots = 0 }))
half_step outer k Or Bar = Some (outer, Operand (record { chain = Some (k, Or); nots = 0 }))
half_step outer k op _ = None

-- the state after one more byte, where a unary is expected
abbrev pub operand_step : List Front → Front → Class → ℕ → Option MachineState
operand_step outer f Space b = Some (outer, Operand f)
operand_step outer f Bang b = Some (outer, Operand (record { chain = f.chain; nots = suc f.nots }))
operand_step outer f Question b = Some (outer, Asked f)
operand_step outer f Open b = Some (f ∷ outer, Operand bare)
operand_step outer f Sharp b = Some (outer, Number f false [])
operand_step outer f Digit b = Some (outer, Named f false (b ∷ []) 0)
operand_step outer f Letter b = Some (outer, Named f false (b ∷ []) 0)
operand_step outer f _ b = None

-- the state after one more byte, where an object is expected
abbrev pub asked_step : List Front → Front → Class → ℕ → Option MachineState
asked_step outer f Space b = Some (outer, Asked f)
asked_step outer f Sharp b = Some (outer, Number f true [])
asked_step outer f Digit b = Some (outer, Named f true (b ∷ []) 0)
asked_step outer f Letter b = Some (outer, Named f true (b ∷ []) 0)
asked_step outer f _ b = None

-- the state after one more byte, after a sharp and digits
abbrev pub number_step : List Front → Front → Bool → List ℕ → Class → ℕ → Option MachineState
number_step outer f a ds Digit b =
    if nat_lt (length ds) MOST_DIGITS then Some (outer, Number f a (ds ++ b ∷ [])) else None
number_step outer f a [] k b = None
number_step outer f a (d ∷ ds) k b = after_step outer (extend_chain f (atom a (SHARP ∷ d ∷ ds))) k

-- the state after one more byte, after a name
abbrev pub named_step : List Front → Front → Bool → List ℕ → ℕ → Class → ℕ → Option MachineState
named_step outer f a text n Space b = Some (outer, Named f a text (suc n))
named_step outer f a text n Digit b = Some (outer, Named f a (text ++ replicate n SPACE ++ b ∷ []) 0)
named_step outer f a text n Letter b = Some (outer, Named f a (text ++ replicate n SPACE ++ b ∷ []) 0)
named_step outer f a text n Sharp b = Some (outer, Named f a (text ++ replicate n SPACE ++ b ∷ []) 0)
named_step outer f a text n k b = after_step outer (extend_chain f (atom a text)) k

-- the state after one more byte, at any position
abbrev pub step : List Front → Mode → Class → ℕ → Option MachineState
step outer (Operand f) k b = operand_step outer f k b
step outer (Asked f) k b = asked_step outer f k b
step outer (Number f a ds) k b = number_step outer f a ds k b
step outer (Named f a text n) k b = named_step outer f a text n k b
step outer (After t) k b = after_step outer t k
step outer (Half t op) k b = half_step outer t op k

-- the state after one more byte, or None if no key text continues this way
abbrev pub next : Option MachineState → ℕ → Option MachineState
next None b = None
next (Some s) b = step s.0 s.1 (class_of b) b

-- the state after these bytes
abbrev pub run : Option MachineState → List ℕ → Option MachineState
run s [] = s
run s (b ∷ bs) = run (next s b) bs

-- the initial state
abbrev pub start : Option MachineState
start = Some ([], Operand bare)

-- the chain that ends here, if its last unary is complete
abbrev pub chain_at_end : Mode → Option Reading
chain_at_end (Operand f) = None
chain_at_end (Asked f) = None
chain_at_end (Number f a []) = None
chain_at_end (Number f a (d ∷ ds)) = Some (extend_chain f (atom a (SHARP ∷ d ∷ ds)))
chain_at_end (Named f a text n) = Some (extend_chain f (atom a text))
chain_at_end (After t) = Some t
chain_at_end (Half t op) = None

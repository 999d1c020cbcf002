-- The builder's parts as parts of the machine; proofs/Building.antt ties the machine to the grammar of key texts.
-- `key_in` in Finds.antt ends with `outer_settled`.
use Rattle.std.specs.Prelude.{ℕ, List, [], ◌∷◌, Option, Some, None, String, map, reverse, string_bytes}
use Rattle.std.specs.declared.alloc.Global.{Global}
use Rattle.mud_key.specs.declared.operator.Operator.{Operator}
use Rattle.mud_key.specs.declared.node.Node.{Node}
use Rattle.mud_key.specs.declared.front.Front.{Front}
use Rattle.mud_key.specs.declared.builder.Mode.{Mode}
use Rattle.mud_key.specs.declared.builder.Mode.TheVariants as mode
use Rattle.mud_key.specs.declared.builder.Builder.{Builder}
use Rattle.mud_key.specs.Tree.{Tree}
use Rattle.mud_key.specs.Node.{reading_of}
use Rattle.mud_key.specs.inner.Machine as machine

-- the chain before an operator, and the operator
abbrev pub chain_of : Option (Node (String Global) × Operator) → Option (Tree (List ℕ) × Operator)
chain_of None = None
chain_of (Some c) = Some (reading_of c.0, c.1)

-- the context of a unary
abbrev pub front_of : Front → machine.Front
front_of f = record { chain = chain_of f.chain; nots = f.nots }

-- the contexts, the innermost first
abbrev pub outer_of : List Front → List machine.Front
outer_of fs = reverse (map front_of fs)

-- the position of the builder
abbrev pub mode_of : Mode → machine.Mode
mode_of (mode.Operand f) = machine.Operand (front_of f)
mode_of (mode.Asked f) = machine.Asked (front_of f)
mode_of (mode.Number l digits) = machine.Number (front_of l.front) l.asked (string_bytes digits)
mode_of (mode.Named l d) = machine.Named (front_of l.front) l.asked (string_bytes d.text) d.spaces
mode_of (mode.After t) = machine.After (reading_of t)
mode_of (mode.Half t op) = machine.Half (reading_of t) op

-- the builder, if there is one
abbrev pub state_of : Option Builder → Option machine.MachineState
state_of None = None
state_of (Some b) = Some (outer_of b.outer.items, mode_of b.mode)

-- the number of `!` before the next unary
abbrev pub nots_before : machine.Mode → ℕ
nots_before (machine.Operand f) = f.nots
nots_before _ = 0

-- the number of spaces after the name that is being read
abbrev pub spaces_behind : machine.Mode → ℕ
spaces_behind (machine.Named f a text n) = n
spaces_behind _ = 0

-- the tree that was found, if any
abbrev pub found_of : Option (Node (String Global)) → Option (Tree (List ℕ))
found_of None = None
found_of (Some k) = Some (reading_of k)

-- the key, if all parentheses are closed and the chain is complete
abbrev pub outer_settled : List machine.Front → machine.Mode → Option (Tree (List ℕ))
outer_settled [] m = machine.chain_at_end m
outer_settled (f ∷ outer) m = None

-- The model of a node: the tree, without its addresses in memory.
use Rattle.std.specs.Prelude.{ℕ, List, String, string_bytes}
use Rattle.std.specs.declared.alloc.Global.{Global}
use Rattle.mud_key.specs.declared.node.Node.{Node}
use Rattle.mud_key.specs.declared.node.Node.TheVariants as node
use Rattle.mud_key.specs.Tree.{Tree, Has, Asks, Not, Join}

-- the tree of a node, with f applied to each object; boxes leave no trace
abbrev pub tree_of : {O V : Type 0} → (O → V) → Node O → Tree V
tree_of f (node.Has o) = Has (f o)
tree_of f (node.Asks o) = Asks (f o)
tree_of f (node.Not' p k) = Not (tree_of f k)
tree_of f (node.Join' op p a q b) = Join op (tree_of f a) (tree_of f b)

-- the tree of a key as it is written
abbrev pub reading_of : Node (String Global) → Tree (List ℕ)
reading_of k = tree_of string_bytes k

-- the tree of a key over numbers
abbrev pub key_of : Node ℕ → Tree ℕ
key_of k = tree_of (λ n. n) k

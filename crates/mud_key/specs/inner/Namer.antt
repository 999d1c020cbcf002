-- The resolution of a tree of texts, node by node.
use Rattle.std.specs.Prelude.{◌≡◌, ℕ, Result, Ok, Err}
use Rattle.mud_key.specs.declared.namer.Miss.{Miss}
use Rattle.mud_key.specs.declared.key_fault.KeyFault.{KeyFault}
use Rattle.mud_key.specs.declared.key_fault.KeyFault.TheVariants.{OutOfMemory, NoSuch, Ambiguous}
use Rattle.mud_key.specs.declared.node.Node.{Node}
use Rattle.mud_key.specs.Tree.{Tree}
use Rattle.mud_key.specs.Node.{key_of}
use Rattle.mud_key.specs.declared.namer.Miss.TheVariants as miss

-- the fault for a miss
abbrev pub fault_of : Miss → KeyFault
fault_of miss.NoSuch = NoSuch
fault_of miss.Ambiguous = Ambiguous

-- a node is resolved as this result for its tree says; only private parts use it
abbrev pub NodeResolvesAs : Result (Tree ℕ) Miss → Result (Node ℕ) KeyFault → Type 0
NodeResolvesAs r (Ok k) = r ≡ Ok (key_of k)
NodeResolvesAs r (Err OutOfMemory) = Unit {0}
NodeResolvesAs r (Err NoSuch) = r ≡ Err miss.NoSuch
NodeResolvesAs r (Err Ambiguous) = r ≡ Err miss.Ambiguous
NodeResolvesAs r (Err other) = ⊥

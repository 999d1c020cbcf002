-- The model of the owners in memory.
use Rattle.std.specs.Prelude.{ℕ, List, Vec, map}
use Rattle.std.specs.declared.alloc.Global.{Global}

-- the texts
abbrev pub items_of : List (Vec ℕ Global) → List (List ℕ)
items_of texts = map (λ v. v.items) texts

-- Keys as trees.
use Rattle.std.specs.Prelude.{ℕ, ◌+◌, ◌≤◌, List, [], ◌∷◌, ◌++◌}
use Rattle.mud_key.specs.declared.limits.TheConstants.{LAST_NUMBER, MOST_OBJECTS, MOST_NOTS}
use Rattle.mud_key.specs.declared.operator.Operator.{Operator}

-- a key over texts, as it is written, or over numbers: an object, `?` and an object, `!` and a key, or two keys joined
pub data Tree (O : Type 0) : Type 0 where
  Has : O → Tree O
  Asks : O → Tree O
  Not : Tree O → Tree O
  Join : Operator → Tree O → Tree O → Tree O

-- the number of occurrences of objects in the key
abbrev pub objects_of : {O : Type 0} → Tree O → ℕ
objects_of (Has o) = 1
objects_of (Asks o) = 1
objects_of (Not k) = objects_of k
objects_of (Join op a b) = objects_of a + objects_of b

-- the number of `!` in the key
abbrev pub nots_of : {O : Type 0} → Tree O → ℕ
nots_of (Has o) = 0
nots_of (Asks o) = 0
nots_of (Not k) = nots_of k + 1
nots_of (Join op a b) = nots_of a + nots_of b

-- P holds of each object of the key
abbrev pub AllObjects : {O : Type 0} → (O → Type 0) → Tree O → Type 0
AllObjects P (Has o) = P o
AllObjects P (Asks o) = P o
AllObjects P (Not k) = AllObjects P k
AllObjects P (Join op a b) = AllObjects P a × AllObjects P b

-- the key has at most 16 objects and at most 64 `!`
pub record IsWithinLimits {O : Type 0} (key : Tree O) : Type 0 where
  pub objects : objects_of key ≤ MOST_OBJECTS
  pub nots : nots_of key ≤ MOST_NOTS

-- a key over numbers: it is within the limits, and no number is above 8,191
pub record IsKey (key : Tree ℕ) : Type 0 where
  pub limits : IsWithinLimits key
  pub numbers : AllObjects (λ n. n ≤ LAST_NUMBER) key

-- the objects of the key in the order of the text, one for each occurrence
abbrev pub atoms_of : Tree ℕ → List ℕ
atoms_of (Has n) = n ∷ []
atoms_of (Asks n) = n ∷ []
atoms_of (Not k) = atoms_of k
atoms_of (Join op a b) = atoms_of a ++ atoms_of b

-- the objects of the key after `?`, in the order of the text
abbrev pub asks_of : Tree ℕ → List ℕ
asks_of (Has n) = []
asks_of (Asks n) = n ∷ []
asks_of (Not k) = asks_of k
asks_of (Join op a b) = asks_of a ++ asks_of b

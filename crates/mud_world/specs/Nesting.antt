-- Questions of keys, which the nesting of a key counts.
use Rattle.std.specs.Prelude.{◌≡◌, ℕ, nat_eq, Some, IsTrue}
use Rattle.std.proofs.Common.{zero, suc}
use Rattle.std.specs.List.{list_any}
use Rattle.mud_key.specs.Tree.{Tree, asks_of}
use Rattle.mud_world.specs.State.{State, key_of}

-- object a has a key that asks about object b
pub record Question (w : State) (a b : ℕ) : Type 0 where
  pub key : Tree ℕ
  pub is : key_of w a ≡ Some key
  pub asks : IsTrue (list_any (nat_eq b) (asks_of key))

-- a chain of n questions leads from object a to object b
abbrev pub Questions : State → ℕ → ℕ → ℕ → Type 0
Questions w zero a b = a ≡ b
Questions w (suc n) a b = (c : ℕ) × Question w a c × Questions w n c b

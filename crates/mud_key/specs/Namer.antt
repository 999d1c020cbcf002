-- The resolution of a key's texts.
use Rattle.std.specs.Prelude.{◌≡◌, ℕ, List, Result, Ok, Err}
use Rattle.mud_key.specs.declared.namer.Miss.{Miss}
use Rattle.mud_key.specs.declared.namer.Miss.TheVariants as miss
use Rattle.mud_key.specs.declared.key_fault.KeyFault.{KeyFault}
use Rattle.mud_key.specs.declared.key_fault.KeyFault.TheVariants.{OutOfMemory, NoSuch, Ambiguous}
use Rattle.mud_key.specs.declared.operator.Operator.{Operator}
use Rattle.mud_key.specs.Tree.{Tree, Has, Asks, Not, Join}

-- f of the value, or the miss unchanged
abbrev pub result_map : {A B : Type 0} → (A → B) → Result A Miss → Result B Miss
result_map f (Ok x) = Ok (f x)
result_map f (Err e) = Err e

-- two resolved keys joined, or the miss of the first that has one
abbrev pub joined_result : Operator → Result (Tree ℕ) Miss → Result (Tree ℕ) Miss → Result (Tree ℕ) Miss
joined_result op (Ok a) b = result_map (λ k. Join op a k) b
joined_result op (Err e) b = Err e

-- the key with each object replaced by its number, or the first miss in the order of the text
abbrev pub resolved : (List ℕ → Result ℕ Miss) → Tree (List ℕ) → Result (Tree ℕ) Miss
resolved meaning (Has o) = result_map Has (meaning o)
resolved meaning (Asks o) = result_map Asks (meaning o)
resolved meaning (Not k) = result_map Not (resolved meaning k)
resolved meaning (Join op a b) = joined_result op (resolved meaning a) (resolved meaning b)

-- unless memory ran out, `resolve` returned this result
abbrev pub ResolvesAs : Result (Tree ℕ) Miss → Result (Tree ℕ) KeyFault → Type 0
ResolvesAs r (Ok k) = r ≡ Ok k
ResolvesAs r (Err OutOfMemory) = Unit {0}
ResolvesAs r (Err NoSuch) = r ≡ Err miss.NoSuch
ResolvesAs r (Err Ambiguous) = r ≡ Err miss.Ambiguous
ResolvesAs r (Err other) = ⊥

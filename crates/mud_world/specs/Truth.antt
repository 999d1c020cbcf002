-- The truth of a key.
use Rattle.std.specs.Prelude.{ℕ, Bool, not, ◌&&◌, ◌||◌}
use Rattle.mud_key.specs.declared.operator.Operator.{Operator}
use Rattle.mud_key.specs.declared.operator.Operator.TheVariants.{And, Or}
use Rattle.mud_key.specs.Tree.{Tree, Has, Asks, Not, Join}

-- the truth tables of `&&` and `||`
abbrev pub truth_of_join : Operator → Bool → Bool → Bool
truth_of_join And a b = a && b
truth_of_join Or a b = a || b

-- the truth of a key, if the objects that pass `held` are true, and `?x` is true for those that pass `unlocked`
abbrev pub key_true : (ℕ → Bool) → (ℕ → Bool) → Tree ℕ → Bool
key_true held unlocked (Has n) = held n
key_true held unlocked (Asks n) = unlocked n
key_true held unlocked (Not k) = not (key_true held unlocked k)
key_true held unlocked (Join op a b) = truth_of_join op (key_true held unlocked a) (key_true held unlocked b)

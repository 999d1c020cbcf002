-- A resolved key has the counts of its text.
use Rattle.std.proofs.Common.{◌≡◌, ℕ, ◌+◌, List, ◌≤◌, Result, Ok, Err, refl, subst, arith}
use Rattle.mud_key.specs.declared.limits.TheConstants.{LAST_NUMBER}
use Rattle.mud_key.specs.declared.namer.Miss.{Miss}
use Rattle.mud_key.specs.declared.operator.Operator.{Operator}
use Rattle.mud_key.specs.Tree.{Tree, Has, Asks, Not, Join, objects_of, nots_of, AllObjects, IsWithinLimits, IsKey}
use Rattle.mud_key.specs.Namer.{result_map, joined_result, resolved}

-- the key has these numbers of objects and of `!`, if it was resolved
abbrev pub CountsAs : ℕ → ℕ → Result (Tree ℕ) Miss → Type 0
CountsAs objects nots (Ok k) = (objects_of k ≡ objects) × (nots_of k ≡ nots)
CountsAs objects nots (Err e) = Unit {0}

has_counts : (r : Result ℕ Miss) → CountsAs 1 0 (result_map Has r)
has_counts (Ok n) = (refl, refl)
has_counts (Err e) = tt

asks_counts : (r : Result ℕ Miss) → CountsAs 1 0 (result_map Asks r)
asks_counts (Ok n) = (refl, refl)
asks_counts (Err e) = tt

not_counts : (o n : ℕ) (r : Result (Tree ℕ) Miss) → CountsAs o n r → CountsAs o (n + 1) (result_map Not r)
not_counts o n (Ok k) h = (h.0, omega (arith, h.1))
not_counts o n (Err e) h = tt

join_counts : (op : Operator) (o n p m : ℕ) (r s : Result (Tree ℕ) Miss) → CountsAs o n r → CountsAs p m s
    → CountsAs (o + p) (n + m) (joined_result op r s)
join_counts op o n p m (Ok a) (Ok b) h i = (omega (arith, h.0, i.0), omega (arith, h.1, i.1))
join_counts op o n p m (Ok a) (Err e) h i = tt
join_counts op o n p m (Err e) s h i = tt

-- a key has the counts of the text that it was resolved from
pub resolved_counts : (meaning : List ℕ → Result ℕ Miss) (t : Tree (List ℕ))
    → CountsAs (objects_of t) (nots_of t) (resolved meaning t)
resolved_counts meaning (Has o) = has_counts (meaning o)
resolved_counts meaning (Asks o) = asks_counts (meaning o)
resolved_counts meaning (Not k) = not_counts (objects_of k) (nots_of k) (resolved meaning k) (resolved_counts meaning k)
resolved_counts meaning (Join op a b) =
    join_counts op (objects_of a) (nots_of a) (objects_of b) (nots_of b) (resolved meaning a) (resolved meaning b)
    (resolved_counts meaning a) (resolved_counts meaning b)

-- a key text resolves to numbers
pub resolved_key : (meaning : List ℕ → Result ℕ Miss) (t : Tree (List ℕ)) (k : Tree ℕ) → resolved meaning t ≡ Ok k
    → IsWithinLimits t → AllObjects (λ n. n ≤ LAST_NUMBER) k → IsKey k
resolved_key meaning t k e h numbers =
    go (subst (λ r. CountsAs (objects_of t) (nots_of t) r) e (resolved_counts meaning t))
  where
    go : CountsAs (objects_of t) (nots_of t) (Ok k) → IsKey k
    go c = record {
      limits = record { objects = omega (arith, c.0, h.objects); nots = omega (arith, c.1, h.nots) };
      numbers = numbers;
    }

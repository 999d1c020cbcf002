use Rattle.std.proofs.Common.{◌≡◌, ℕ, ◌++◌, ◌-◌, ◌<◌, ◌≤◌, true, false, length, map}
use Rattle.std.specs.Prelude.{is_none, nat_eq}
use Rattle.std.specs.List.{list_any, range_with_len}
use Rattle.mud_world.specs.State.{has}
use Rattle.mud_world.proofs.key_index.KeyIndex.grow.Given as goal

-- the objects below the number are known, and each with a key is listed
abbrev pub invariant-loop-object : goal.invariant-loop-object
invariant-loop-object l =
    let was = l.initial.self in
    let known = length was.0 in
    let test = λ (n : ℕ). has l.world n (λ r. is_none r.key) in
    (known ≤ l.object)
    × (l.world.next ≤ known → l.object ≡ known)
    × (l.self.0 ≡ was.0 ++ map test (range_with_len known (l.object - known)))
    × ((o : ℕ) → list_any (nat_eq o) l.self.1 ≡ false
    → (list_any (nat_eq o) was.1 ≡ false) × (known ≤ o → o < l.object → test o ≡ true))

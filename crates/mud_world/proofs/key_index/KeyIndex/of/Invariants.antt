use Rattle.std.proofs.Common.{◌≡◌, ℕ, ◌<◌, ◌≤◌, true, false, length, get_or}
use Rattle.std.specs.Prelude.{is_none, nat_eq}
use Rattle.std.specs.List.{list_any}
use Rattle.mud_world.specs.State.{has}
use Rattle.mud_world.proofs.key_index.KeyIndex.of.Given as goal

-- the objects so far have their results, the others have true, and each with a key is listed
abbrev pub invariant-loop-object : goal.invariant-loop-object
invariant-loop-object l =
    (length l.keyless.items ≡ l.world.next)
    × ((k : ℕ) → k < l.object → get_or l.keyless.items k false ≡ has l.world k (λ r. is_none r.key))
    × ((k : ℕ) → k < l.object → has l.world k (λ r. is_none r.key) ≡ false → list_any (nat_eq k) l.keyed.items ≡ true)
    × ((k : ℕ) → l.object ≤ k → k < l.world.next → get_or l.keyless.items k false ≡ true)

-- The counts of a text are those of its key.
use Rattle.std.proofs.Common.{◌≡◌, ℕ, ◌≤◌, List, ap, arith}
use Rattle.mud_key.specs.declared.limits.TheConstants.{MOST_OBJECTS, MOST_NOTS}
use Rattle.mud_key.specs.declared.scan.Scan.{Scan}
use Rattle.mud_key.specs.Tree.{Tree, IsWithinLimits, objects_of, nots_of}
use Rattle.mud_key.specs.KeyText.{SpellsKey}
use Rattle.mud_key.specs.inner.Scan.{Counts}
use Rattle.mud_key.proofs.Complete.{one_key}

pub within_limits : (text : List ℕ) (s : Scan) (tree : Tree (List ℕ))
    → ((key : Tree (List ℕ)) × SpellsKey text key × Counts s key) → SpellsKey text tree → s.objects ≤ MOST_OBJECTS
    → s.nots ≤ MOST_NOTS → IsWithinLimits tree
within_limits text s tree (key, k, counts) t objects nots =
    let same : key ≡ tree = one_key text key tree k t in
    record {
      objects = omega (arith, counts.objects, ap (λ (x : Tree (List ℕ)). objects_of x) same);
      nots = omega (arith, counts.nots, ap (λ (x : Tree (List ℕ)). nots_of x) same);
    }

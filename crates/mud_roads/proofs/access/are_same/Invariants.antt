use Rattle.std.proofs.Common.{◌≡◌, ◌≢◌, ℕ, ◌<◌, true, false, get_or}
use Rattle.mud_roads.proofs.access.are_same.Given as goal

-- the marks so far are the same, or the lists differ
abbrev pub invariant-loop-at : goal.invariant-loop-at
invariant-loop-at l =
    (l.differ ≡ false → (k : ℕ) → k < l.at → get_or l.marks k false ≡ get_or l.others k false)
    × (l.differ ≡ true → l.marks ≢ l.others)

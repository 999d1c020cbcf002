-- The world of a list of entries, and of one more entry.
use Rattle.std.proofs.Common.{◌≡◌, ℕ, zero, suc, ◌+◌, List, [], ◌∷◌, take, Some, slice_get, add-one, ap}
use Rattle.mud_world.specs.State.{State}
use Rattle.mud_world.specs.Opening.{opening_state}
use Rattle.mud_world.specs.History.{world_from}
use Rattle.mud_world.specs.History.{step_or_same}
use Rattle.mud_chron.specs.Entry.{Entry}
use Rattle.mud_chron.specs.Replay.{changes_of, world_at}

world_from-take : (w : State) (es : List Entry) (n : ℕ) (e : Entry) → slice_get es n ≡ Some e
    → world_from w (changes_of (take (suc n) es)) ≡ step_or_same (world_from w (changes_of (take n es))) e.change
world_from-take w [] n e at = absurd (cc)
world_from-take w (x ∷ es) zero e at = let same : x ≡ e = cc in ap (λ y. step_or_same w y.change) same
world_from-take w (x ∷ es) (suc n) e at = world_from-take (step_or_same w x.change) es n e at

-- the world after one more entry is the world before it after the entry's change
pub world_at-next : (es : List Entry) (n : ℕ) (e : Entry) → slice_get es n ≡ Some e
    → world_at es (n + 1) ≡ step_or_same (world_at es n) e.change
world_at-next es n e at = rw add-one (world_from-take opening_state es n e at)

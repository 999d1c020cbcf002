use Rattle.std.proofs.Common.{◌≡◌, ◌<◌, ℕ, false, slice_index_or}
use Rattle.mud_bans.specs.Network.{is_same}
use Rattle.mud_bans.proofs.bans.place_of.Given as goal

-- no network so far equals this one
abbrev pub invariant-loop-at : goal.invariant-loop-at
invariant-loop-at l = (k : ℕ) → k < l.at → is_same (slice_index_or l.list k l.network) l.network ≡ false

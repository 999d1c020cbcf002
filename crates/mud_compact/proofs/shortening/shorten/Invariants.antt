use Rattle.std.proofs.Common.{◌≡◌, ◌≤◌, false, length}
use Rattle.mud_compact.specs.Shorter.{has_talk}
use Rattle.mud_compact.specs.inner.ShorterHistory.{LeadsTo}
use Rattle.mud_compact.proofs.shortening.shorten.Given as goal

-- the present history is no longer, has no talk, and leads to the world
abbrev pub invariant-loop : goal.invariant-loop
invariant-loop l = record {
  leads : LeadsTo l.kept.items l.world;
  no_longer : length l.kept.items ≤ length l.entries;
  silent : has_talk l.kept.items ≡ false;
}

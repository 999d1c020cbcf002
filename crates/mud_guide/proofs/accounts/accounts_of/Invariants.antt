use Rattle.std.proofs.Common.{◌≡◌, ℕ, ◌+◌, ◌<◌, length}
use Rattle.std.specs.Prelude.{All, slice_index_or}
use Rattle.mud_cert.specs.Certificate.{Account, IsAccount}
use Rattle.mud_search.specs.Least.{label_in}
use Rattle.mud_guide.specs.Legs.{Leg}
use Rattle.mud_guide.specs.inner.Listings.{IsListed}
use Rattle.mud_guide.proofs.accounts.accounts_of.Given as goal

abbrev pub invariant-loop-member : goal.invariant-loop-member
invariant-loop-member l = record {
  long : length l.accounts.items ≡ l.member;
  each : (m : ℕ) (j : Leg) (a : Account) → m < length l.accounts.items
      → IsListed (label_in l.labels (l.first + m)) l.next (slice_index_or l.legs m j)
      (slice_index_or l.accounts.items m a);
  limits : All IsAccount l.accounts.items;
}

use Rattle.std.proofs.Common.{◌≡◌, ℕ, ◌<◌, length}
use Rattle.std.specs.Vec.{vec_capacity}
use Rattle.mud_search.specs.inner.Queues.{entry_at, place_at}
use Rattle.mud_search.proofs.queue.Queue.new.Given as goal

abbrev pub invariant-loop-place : goal.invariant-loop-place
invariant-loop-place l = record {
  entries : length l.entries.items ≡ l.place;
  places : length l.places.items ≡ l.place;
  entries_fit : vec_capacity l.entries ≡ l.rooms;
  places_fit : vec_capacity l.places ≡ l.rooms;
  here : (i : ℕ) → i < l.place → (entry_at l.entries.items i).room ≡ i;
  there : (i : ℕ) → i < l.place → place_at l.places.items i ≡ i;
}

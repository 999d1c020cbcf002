use Rattle.std.proofs.Common.{◌≡◌, ◌<◌, ◌≤◌, length}
use Rattle.mud_search.specs.inner.Queues.{IsMatched, IsOrderedBut, waiting_labels}
use Rattle.mud_search.proofs.queue.Heap.rise.Given as goal

abbrev pub invariant-loop-at : goal.invariant-loop-at
invariant-loop-at l = record {
  matched : IsMatched l.self.entries.items l.self.places.items;
  fits : l.self.waiting ≤ length l.self.entries.items;
  within : l.at < l.self.waiting;
  order : IsOrderedBut l.self.entries.items l.self.waiting l.at;
  labels : waiting_labels l.self.entries.items l.self.places.items l.self.waiting ≡ waiting_labels
      l.fn.self.entries.items l.fn.self.places.items l.fn.self.waiting;
}

abbrev pub decreases-loop-at : goal.decreases-loop-at
decreases-loop-at l = l.at

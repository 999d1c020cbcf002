use Rattle.std.proofs.Common.{◌≡◌, ◌-◌, ◌<◌, ◌≤◌, length, set}
use Rattle.mud_search.specs.inner.Queues.{IsMatched, IsOrderedDownTo, waiting_labels}
use Rattle.mud_search.proofs.queue.Heap.sink.Given as goal

abbrev pub invariant-loop-below : goal.invariant-loop-below
invariant-loop-below l = record {
  matched : IsMatched (set l.self.entries.items l.at l.entry) (set l.self.places.items l.entry.room l.at);
  fits : l.self.waiting ≤ length l.self.entries.items;
  within : l.at < l.self.waiting;
  order : IsOrderedDownTo (set l.self.entries.items l.at l.entry) l.self.waiting l.at;
  labels : waiting_labels (set l.self.entries.items l.at l.entry) (set l.self.places.items l.entry.room l.at)
      l.self.waiting ≡ waiting_labels l.fn.self.entries.items l.fn.self.places.items l.fn.self.waiting;
  same : l.self.waiting ≡ l.initial.self.waiting;
}

abbrev pub decreases-loop-below : goal.decreases-loop-below
decreases-loop-below l = l.initial.self.waiting - l.at

use Rattle.std.proofs.Common.{◌≡◌, ◌<◌, None, length, set, sym, ap, ◌∙◌, arith}
use Rattle.mud_search.specs.inner.Queues.{waiting_labels}
use Rattle.mud_search.proofs.Heaps.{absent_stays, length_labels}
use Rattle.mud_search.proofs.queue.Queue.remove.Goals as goal

pub returns-else-at-self : goal.returns-else-at-self
returns-else-at-self c =
    let heap = c.self.inside.heap in
    let whole : length (waiting_labels heap.entries.items heap.places.items heap.waiting) ≡ length heap.entries.items =
    length_labels heap.entries.items heap.places.items heap.waiting c.self.invariant.matched in
    let within : c.args.room < length heap.entries.items = omega (arith, whole, ap length c.self.view_is) in
    sym c.self.view_is
    ∙ absent_stays heap.entries.items heap.places.items heap.waiting c.args.room c.index.result.now
    c.self.invariant.matched within c.index.ensures (omega arith)
    ∙ ap (λ xs. set xs c.args.room None) c.self.view_is

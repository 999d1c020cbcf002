use Rattle.std.proofs.Common.{None, get_or, ap, ◌∙◌, arith}
use Rattle.mud_search.proofs.Heaps.{waits_at}
use Rattle.mud_search.proofs.Mending.{first_of_all}
use Rattle.mud_search.proofs.queue.Queue.first.Goals as goal

pub returns-then-self-gt0-clause-least : goal.returns-then-self-gt0-clause-least
returns-then-self-gt0-clause-least c room l is =
    let heap = c.self.inside.heap in
    first_of_all heap.entries.items heap.places.items heap.waiting c.index.result.now c.self.invariant
    (omega arith) c.index.ensures
    room l (ap (λ xs. get_or xs room None) c.self.view_is ∙ is)

pub returns-else-self-gt0-clause-none : goal.returns-else-self-gt0-clause-none
returns-else-self-gt0-clause-none c room l is =
    let heap = c.self.inside.heap in
    let found = waits_at heap.entries.items heap.places.items heap.waiting room l c.self.invariant.matched
    (ap (λ xs. get_or xs room None) c.self.view_is ∙ is) in
    omega arith

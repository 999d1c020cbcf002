use Rattle.mud_search.proofs.Heaps.{admitted_set}
use Rattle.mud_search.proofs.queue.Heap.admit.Goals as goal

pub returns-clause-labels : goal.returns-clause-labels
returns-clause-labels c l =
    admitted_set c.args.self.now.entries.items c.swap.new.self.entries.items
    c.args.self.now.places.items c.swap.new.self.places.items
    c.args.self.now.waiting c.index.result.now c.args.room
    c.requires.queue.matched c.swap.ensures.matched c.swap.ensures.swapped c.requires.room
    c.index.ensures c.if-at-last.false l

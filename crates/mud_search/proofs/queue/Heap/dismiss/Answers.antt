use Rattle.std.proofs.Common.{◌-◌, ◌∙◌, arith}
use Rattle.mud_search.proofs.Heaps.{dismissed_labels}
use Rattle.mud_search.proofs.queue.Heap.dismiss.Goals as goal

pub returns-then-at-last-clause-labels : goal.returns-then-at-last-clause-labels
returns-then-at-last-clause-labels c =
    c.mend.ensures.labels
    ∙ dismissed_labels c.args.self.now.entries.items c.swap.new.self.entries.items
    c.args.self.now.places.items c.swap.new.self.places.items
    c.args.self.now.waiting (c.args.self.now.waiting - 1) c.args.at
    c.requires.queue.matched c.swap.ensures.matched c.swap.ensures.swapped
    (omega arith) c.requires.queue.fits c.requires.within

pub returns-else-at-last-clause-labels : goal.returns-else-at-last-clause-labels
returns-else-at-last-clause-labels c =
    dismissed_labels c.args.self.now.entries.items c.swap.new.self.entries.items
    c.args.self.now.places.items c.swap.new.self.places.items
    c.args.self.now.waiting (c.args.self.now.waiting - 1) c.args.at
    c.requires.queue.matched c.swap.ensures.matched c.swap.ensures.swapped
    (omega arith) c.requires.queue.fits c.requires.within

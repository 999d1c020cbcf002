use Rattle.std.proofs.lemmas.List.{get_or_read}
use Rattle.mud_search.proofs.Heaps.{swapped_matched}
use Rattle.mud_search.proofs.queue.Heap.swap.Goals as goal

pub returns-clause-matched : goal.returns-clause-matched
returns-clause-matched c =
    swapped_matched c.args.self.now.entries.items c.args.self.now.places.items c.args.i c.args.j
    c.index-one.result.now c.index-other.result.now
    c.requires.matched c.requires.one c.requires.other
    (get_or_read c.args.self.now.entries.items c.args.i c.index-one.result.now c.requires.one c.index-one.ensures _)
    (get_or_read c.args.self.now.entries.items c.args.j c.index-other.result.now
    c.requires.other c.index-other.ensures _)

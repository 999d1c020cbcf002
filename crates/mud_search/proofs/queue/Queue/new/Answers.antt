use Rattle.std.proofs.Common.{arith}
use Rattle.mud_search.proofs.Heaps.{none_wait}
use Rattle.mud_search.proofs.queue.Queue.new.Goals as goal

pub returns : goal.returns
returns c = none_wait c.loop-place.entries.items c.loop-place.places.items c.args.rooms (omega arith)

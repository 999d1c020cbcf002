use Rattle.std.proofs.Common.{◌≡◌, ◌+◌}
use Rattle.mud_search.specs.Rooms.{slot_in}
use Rattle.mud_search.specs.Tables.{how_many}
use Rattle.mud_search.specs.inner.Once.{IsInOrder, is_unfinished}
use Rattle.mud_search.proofs.frontier.Frontier.finish_counted.Given as goal

-- each room that was taken is one that was not finished before, and is now
abbrev pub invariant-loop-first : goal.invariant-loop-first
invariant-loop-first g l = record {
  order : IsInOrder (slot_in l.self);
  counted : l.taken + how_many is_unfinished l.self ≡ l.fn.taken + how_many is_unfinished l.fn.self;
}

abbrev pub decreases-loop-first : goal.decreases-loop-first
decreases-loop-first g l = how_many is_unfinished l.self

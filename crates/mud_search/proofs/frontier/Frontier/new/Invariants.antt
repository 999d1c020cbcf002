use Rattle.std.proofs.Common.{◌≡◌, map, take}
use Rattle.mud_search.specs.inner.Boards.{begun_at}
use Rattle.mud_search.proofs.frontier.Frontier.new.Given as goal

abbrev pub invariant-loop-traveller : goal.invariant-loop-traveller
invariant-loop-traveller g l = l.boards.items ≡ map (begun_at l.rooms) (take l.traveller-index l.travellers)

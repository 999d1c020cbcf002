use Rattle.mud_search.proofs.Firsts.{BestSoFar}
use Rattle.mud_search.proofs.frontier.Frontier.first.Given as goal

abbrev pub invariant-loop-member : goal.invariant-loop-member
invariant-loop-member g l = BestSoFar l.self-inside.boards.items l.member l.best

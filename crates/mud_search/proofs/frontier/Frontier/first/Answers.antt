use Rattle.std.proofs.Common.{◌≤◌, length, arith}
use Rattle.mud_search.proofs.Firsts.{best-all-some, best-all-none}
use Rattle.mud_search.proofs.frontier.Frontier.first.Goals as goal

pub returns-clause-some : goal.returns-clause-some
returns-clause-some g c =
    let all : length c.self.inside.boards.items ≤ c.loop-member.member = omega arith in
    rw (← c.self.view_is)
    (best-all-some c.self.inside.boards.items c.loop-member.member c.loop-member.best all c.loop-member.invariant)

pub returns-clause-none : goal.returns-clause-none
returns-clause-none g c =
    let all : length c.self.inside.boards.items ≤ c.loop-member.member = omega arith in
    rw (← c.self.view_is)
    (best-all-none c.self.inside.boards.items c.loop-member.member c.loop-member.best all c.loop-member.invariant)

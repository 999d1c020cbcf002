use Rattle.std.proofs.Common.{ap, arith}
use Rattle.mud_search.specs.Tables.{how_many}
use Rattle.mud_search.specs.inner.Once.{is_unfinished}
use Rattle.mud_search.proofs.Frontiers.{frontier-unfinished}
use Rattle.mud_search.proofs.frontier.Frontier.finish_counted.Goals as goal

pub returns-clause-cost : goal.returns-clause-cost
returns-clause-cost g c =
    let most = frontier-unfinished g.J.Job.world g.J.Job.travellers c.self.inside.boards.items c.self.invariant in
    omega (
      arith,
      c.in_default.ensures.none.0,
      c.loop-first.invariant.counted,
      ap (how_many is_unfinished) c.self.view_is,
      most,
    )

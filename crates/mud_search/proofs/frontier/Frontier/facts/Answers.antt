use Rattle.mud_search.proofs.Frontiers.{frontier-facts}
use Rattle.mud_search.proofs.frontier.Frontier.facts.Goals as goal

pub returns : goal.returns
returns g c =
    rw (← c.self.view_is) (frontier-facts g.J.Job.world g.J.Job.travellers c.self.inside.boards.items c.self.invariant)

use Rattle.mud_hall.proofs.Guiding.{guide_is_right}
use Rattle.mud_hall.proofs.laws.guide.Goals as goal

pub returns : goal.returns
returns c =
    guide_is_right
    (record {
      again = c.again.ensures;
      no_returns = c.no_returns.ensures;
      no_return = c.no_return.ensures;
      drops_nothing = c.drops_nothing.ensures;
      optimal = c.valid_is_optimal.ensures;
    })
    (record { routes = c.routes.ensures; alike = c.meeting_cost.ensures })

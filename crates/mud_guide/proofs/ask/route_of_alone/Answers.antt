use Rattle.mud_guide.proofs.Replies.{least_of_one}
use Rattle.mud_guide.proofs.ask.route_of_alone.Goals as goal

pub route_from-requires-clause-least : goal.route_from-requires-clause-least
route_from-requires-clause-least c = least_of_one _ _ _ _ c.from_ref.ensures.value c.in_ok-labels.ensures.least

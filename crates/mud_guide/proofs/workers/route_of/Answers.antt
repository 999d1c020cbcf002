use Rattle.mud_guide.proofs.Replies.{least_of_one}
use Rattle.mud_guide.proofs.workers.route_of.Goals as goal

pub route_from-requires-clause-least : goal.route_from-requires-clause-least
route_from-requires-clause-least g c = least_of_one _ _ _ _ c.from_ref-party.ensures.value c.in_ok-labels.ensures.least

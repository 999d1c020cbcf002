use Rattle.mud_shelf.proofs.Turns.{turn_loses_nothing}
use Rattle.mud_shelf.proofs.laws.turn_loses_nothing.Goals as goal

pub returns : goal.returns
returns c = turn_loses_nothing c.nothing_is_lost.ensures c.always_read.ensures

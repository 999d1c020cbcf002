use Rattle.mud_world.proofs.Players.{players_stay}
use Rattle.mud_world.proofs.laws.players_stay.Goals as goal

pub returns : goal.returns
returns c = players_stay

use Rattle.mud_world.proofs.Players.{new_players_are_players}
use Rattle.mud_world.proofs.laws.new_players.Goals as goal

pub returns : goal.returns
returns c = new_players_are_players

use Rattle.mud_server_volume.proofs.Deciding.{no_turn_at_once}
use Rattle.mud_server_volume.proofs.laws.no_turn_at_once.Goals as goal

pub returns : goal.returns
returns c = no_turn_at_once

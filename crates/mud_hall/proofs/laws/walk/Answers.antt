use Rattle.mud_hall.proofs.Worlds.{walks_go}
use Rattle.mud_hall.proofs.Sample.{}
use Rattle.mud_hall.proofs.laws.walk.Goals as goal

pub returns : goal.returns
returns c = walks_go

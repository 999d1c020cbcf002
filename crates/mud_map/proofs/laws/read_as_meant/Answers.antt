use Rattle.mud_map.proofs.Reading.{read_as_meant}
use Rattle.mud_map.proofs.laws.read_as_meant.Goals as goal

pub returns : goal.returns
returns c = read_as_meant

use Rattle.mud_key.proofs.Found.{key_found}
use Rattle.mud_key.proofs.key_text.read.Goals as goal

pub returns-clause-finds : goal.returns-clause-finds
returns-clause-finds c = key_found c.args.text.now c.read_text.result c.read_text.ensures

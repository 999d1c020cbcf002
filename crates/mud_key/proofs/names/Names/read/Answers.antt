use Rattle.mud_key.proofs.Found.{names_found}
use Rattle.mud_key.proofs.names.Names.read.Goals as goal

pub returns : goal.returns
returns c = record { finds = names_found c.args.text.now c.read_text.result c.read_text.ensures.reads }

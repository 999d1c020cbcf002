use Rattle.mud_theorems.proofs.Browsing.{browsers_type_lines}
use Rattle.mud_theorems.proofs.laws.browsers.Goals as goal

pub returns : goal.returns
returns c = browsers_type_lines c.messages.ensures c.texts_arrive.ensures

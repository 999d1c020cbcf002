use Rattle.mud_chron.proofs.Spellable.{legal_is_spellable}
use Rattle.mud_chron.proofs.laws.legal_is_spellable.Goals as goal

pub returns : goal.returns
returns c = legal_is_spellable

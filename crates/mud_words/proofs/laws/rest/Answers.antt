use Rattle.std.proofs.Common.{refl}
use Rattle.mud_words.proofs.GrammarLemmas.{behind_first, behind_last}
use Rattle.mud_words.proofs.laws.rest.Goals as goal

pub returns : goal.returns
returns c = record { follows = behind_first; nothing = behind_last; blank = refl }

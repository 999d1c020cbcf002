use Rattle.mud_words.proofs.GrammarLemmas.{found, spelled}
use Rattle.mud_words.proofs.laws.grammar.Goals as goal

pub returns : goal.returns
returns c = λ line ws. (spelled line ws, found)

use Rattle.mud_words.proofs.LawLemmas.{quoted_words}
use Rattle.mud_words.proofs.laws.quoted_words.Goals as goal

pub returns : goal.returns
returns c = quoted_words

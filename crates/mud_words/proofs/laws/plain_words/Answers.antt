use Rattle.mud_words.proofs.LawLemmas.{plain_lines}
use Rattle.mud_words.proofs.laws.plain_words.Goals as goal

pub returns : goal.returns
returns c = plain_lines

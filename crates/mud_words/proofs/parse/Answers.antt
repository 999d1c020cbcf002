use Rattle.mud_words.proofs.ReadingLemmas.{front_kept}
use Rattle.mud_words.proofs.parse.Goals as goal

pub verb_and_text-requires-clause-begun : goal.verb_and_text-requires-clause-begun
verb_and_text-requires-clause-begun c = front_kept c.args.line.now _ c.without_front-trimmed.ensures

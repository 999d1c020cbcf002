use Rattle.mud_words.proofs.SpaceLemmas.{trimmed_behind}
use Rattle.mud_words.proofs.spaces.without_back.Goals as goal

pub returns-in-32 : goal.returns-in-32
returns-in-32 c = trimmed_behind _ _ c.trim_end_matches.ensures.matches

use Rattle.mud_words.proofs.SpaceLemmas.{trimmed_in_front}
use Rattle.mud_words.proofs.spaces.without_front.Goals as goal

pub returns-in-32 : goal.returns-in-32
returns-in-32 c = trimmed_in_front _ _ c.trim_start_matches.ensures.matches

use Rattle.mud_rules.proofs.matching.room_match.Goals as goal

pub returns : goal.returns
returns c = c.sort_match.ensures

use Rattle.mud_hall.proofs.answering.Sight.answer.Goals as goal

pub explain-requires-clause-player : goal.explain-requires-clause-player
explain-requires-clause-player g c = c.requires.asked c.in-Ask.query c.in-Ask.is

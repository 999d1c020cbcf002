use Rattle.std.proofs.Common.{arith}
use Rattle.mud_web.proofs.Heads.{answers_whole}
use Rattle.mud_web.proofs.asking.answer.Goals as goal

pub returns-clause-answers : goal.returns-clause-answers
returns-clause-answers c =
    answers_whole _ _ _ _ _ c.requires.within (omega arith) c.requires.room c.route.ensures.answers

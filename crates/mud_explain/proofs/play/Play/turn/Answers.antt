use Rattle.std.proofs.Common.{inr, codes, refl}
use Rattle.std.proofs.lemmas.Result.{on_ok_weaker}
use Rattle.mud_explain.proofs.play.Play.turn.Goals as goal

pub returns-in-None-clause-told : goal.returns-in-None-clause-told
returns-in-None-clause-told g c =
    on_ok_weaker c.not_understood-in-None.result
    (λ said. (codes "not understood\n", said, inr (inr c.in-None.ensures.none, (refl, refl))))
    c.not_understood-in-None.ensures

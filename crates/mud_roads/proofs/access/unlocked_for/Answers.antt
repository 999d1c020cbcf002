use Rattle.std.proofs.lemmas.Result.{IfOk-weaker}
use Rattle.mud_roads.proofs.access.unlocked_for.Goals as goal

pub returns-clause-knows : goal.returns-clause-knows
returns-clause-knows c =
    IfOk-weaker c.judge.result _ _
    (λ marks known n. known c.args.player n c.in_ok-holding.ensures.holding) c.judge.ensures.answers

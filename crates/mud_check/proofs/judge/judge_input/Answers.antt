use Rattle.mud_check.proofs.Judging.{judged}
use Rattle.mud_check.proofs.judge.judge_input.Goals as goal

pub returns-in-Ok-clause-ok : goal.returns-in-Ok-clause-ok
returns-in-Ok-clause-ok g c =
    judged c.args.source.now.left c.in_ok-bytes.bytes.items c.split.result.0.now c.split.result.1.now c.in-Ok.outcome
    c.in_ok-bytes.ensures.bytes (rw c.deref.ensures.value at c.split.ensures) c.in-Ok.ensures.finding

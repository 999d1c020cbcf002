use Rattle.mud_web.proofs.Runs.{feeds_ok, feeds_on, feeds_over}
use Rattle.mud_web.proofs.channel.Channel.read_all.Goals as goal

pub loop-preserved : goal.loop-preserved
loop-preserved c = feeds_on _ _ _ _ _ _ _ _ _ _ _ c.if-not-more.false c.loop.invariant c.in-Ok.ensures.took

pub returns-then-not-more-clause-ok : goal.returns-then-not-more-clause-ok
returns-then-not-more-clause-ok c =
    feeds_ok _ _ _ _ _ _ _ _ _ _ _ c.if-not-more.true c.loop.invariant c.in-Ok.ensures.took

pub returns-in-Err-clause-over : goal.returns-in-Err-clause-over
returns-in-Err-clause-over c =
    feeds_over _ _ _ _ _ _ _ _ _ _ _ _ _ c.loop.invariant c.in-Err.ensures.over c.fail.ensures.over

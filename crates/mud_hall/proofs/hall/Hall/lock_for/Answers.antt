use Rattle.std.proofs.Common.{arith}
use Rattle.mud_hall.proofs.Notices.{takes_more}
use Rattle.mud_hall.proofs.hall.Hall.lock_for.Goals as goal

pub returns-in_err-see-clause-takes : goal.returns-in_err-see-clause-takes
returns-in_err-see-clause-takes g c =
    takes_more c.args.desk.now.state c.loop.desk.state c.see.new.self.state c.loop.invariant.0 c.see.ensures.state

pub returns-in-Some-try_lock-clause-takes : goal.returns-in-Some-try_lock-clause-takes
returns-in-Some-try_lock-clause-takes g c =
    takes_more c.args.desk.now.state c.loop.desk.state c.see.new.self.state c.loop.invariant.0 c.see.ensures.state

pub loop-preserved-then-tries-lt-LOCK_TRIES : goal.loop-preserved-then-tries-lt-LOCK_TRIES
loop-preserved-then-tries-lt-LOCK_TRIES g c = (
  takes_more c.args.desk.now.state c.loop.desk.state c.see.new.self.state c.loop.invariant.0 c.see.ensures.state,
  c.if-tries-lt-LOCK_TRIES.true,
)

pub loop-preserved : goal.loop-preserved
loop-preserved g c = (
  takes_more c.args.desk.now.state c.loop.desk.state c.see.new.self.state c.loop.invariant.0 c.see.ensures.state,
  omega arith,
)

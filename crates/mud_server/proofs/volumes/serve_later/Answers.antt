use Rattle.std.proofs.Common.{inr}
use Rattle.std.specs.Option.{option_map}
use Rattle.mud_shelf.specs.Volume.{durable}
use Rattle.mud_server_end.proofs.Written.{any_err}
use Rattle.mud_server.proofs.Chained.{follows, closes, stops}
use Rattle.mud_server.proofs.volumes.serve_later.Goals as goal

pub returns-in_err-ended-clause-stopped : goal.returns-in_err-ended-clause-stopped
returns-in_err-ended-clause-stopped g c =
    any_err c.from_residual.result (stops _ _ _ _ _ _ c.loop.invariant.followed c.in_err-ended.ensures.stopped)

pub returns-in-Ends-clause-closes : goal.returns-in-Ends-clause-closes
returns-in-Ends-clause-closes g c =
    let served = rw c.in-Ends.is at c.in_ok-ended.ensures.served in
    closes _ _ _ _ _ _ _ (option_map durable (g.S.Draft.Draft.stage c.in-Ends.ended.journal.disk.draft))
    c.loop.invariant.followed served.0 served.1 served.2

pub loop-preserved : goal.loop-preserved
loop-preserved g c =
    let served = rw c.in-Turns.is at c.in_ok-ended.ensures.served in
    record { followed = inr (follows _ _ _ _ _ _ _ c.loop.invariant.followed served.0); ready = served.1 }

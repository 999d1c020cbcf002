use Rattle.std.proofs.Common.{inl, refl, sym, subst}
use Rattle.std.specs.Option.{option_map}
use Rattle.std.proofs.lemmas.Result.{err_from_is_err_and}
use Rattle.mud_shelf.specs.Volume.{durable}
use Rattle.mud_journal.specs.Disk.{Holds}
use Rattle.mud_server_end.proofs.Written.{any_err}
use Rattle.mud_server.proofs.Chained.{closes, closes_later, stops, stops_later}
use Rattle.mud_server.proofs.Settled.{wrote, wrote_part, wrote_nothing}
use Rattle.mud_server.proofs.volumes.serve_volumes.Goals as goal

pub returns-in_err-ended-clause-front : goal.returns-in_err-ended-clause-front
returns-in_err-ended-clause-front g c =
    any_err c.from_residual.result
    (wrote_nothing _ _ _ _ _ (stops _ _ _ _ _ _ (inl (refl, refl)) c.in_err-ended.ensures.stopped))

pub returns-in_err-ended-clause-fault : goal.returns-in_err-ended-clause-fault
returns-in_err-ended-clause-fault g c =
    let p = err_from_is_err_and c.from_residual.result c.from_residual.ensures.1 in
    rw (p.1, p.2) (λ capacity loaded old. c.in_err-ended.ensures.fault capacity loaded old c.args.out.now)

pub returns-in_err-finish-in-Ends-clause-front : goal.returns-in_err-finish-in-Ends-clause-front
returns-in_err-finish-in-Ends-clause-front g c =
    let served = rw c.in-Ends.is at c.in_ok-ended.ensures.served in
    any_err c.from_residual-in_err-finish-in-Ends.result
    (wrote_part _ _ _ _ _ (g.D.Appends.kept c.in-Ends.ended.journal.disk) _ _
    (closes _ _ _ _ _ _ _ _ (inl (refl, refl)) served.0 served.1 served.2) c.in_err-finish-in-Ends.ensures.front)

pub returns-in_err-ended-in-Turns-clause-front : goal.returns-in_err-ended-in-Turns-clause-front
returns-in_err-ended-in-Turns-clause-front g c =
    let served = rw c.in-Turns.is at c.in_ok-ended.ensures.served in
    any_err c.from_residual-in_err-ended-in-Turns.result
    (wrote_nothing _ _ _ _ _ (stops_later _ _ _ _ _ _ served.0 c.in_err-ended-in-Turns.ensures.stopped))

pub returns-in_err-ended-in-Turns-clause-fault : goal.returns-in_err-ended-in-Turns-clause-fault
returns-in_err-ended-in-Turns-clause-fault g c =
    let p =
    err_from_is_err_and c.from_residual-in_err-ended-in-Turns.result
    c.from_residual-in_err-ended-in-Turns.ensures.1 in
    rw (p.1, p.2) (λ capacity loaded old. c.in_err-ended-in-Turns.ensures.fault capacity loaded old c.args.out.now)

pub returns-in_err-finish-in-Turns-clause-front : goal.returns-in_err-finish-in-Turns-clause-front
returns-in_err-finish-in-Turns-clause-front g c =
    let served = rw c.in-Turns.is at c.in_ok-ended.ensures.served in
    any_err c.from_residual-in_err-finish-in-Turns.result
    (wrote_part _ _ _ _ _ _ _ _ (closes_later _ _ _ _ _ _ _ _ served.0 c.in_ok-ended-in-Turns.ensures.closes)
    c.in_err-finish-in-Turns.ensures.front)

pub returns-in_ok-finish-in-Ends-clause-ok : goal.returns-in_ok-finish-in-Ends-clause-ok
returns-in_ok-finish-in-Ends-clause-ok g c =
    let served = rw c.in-Ends.is at c.in_ok-ended.ensures.served in (
      wrote _ _ _ _ _ (g.D.Appends.kept c.in-Ends.ended.journal.disk) _ _
          (closes _ _ _ _ _ _ _ _ (inl (refl, refl)) served.0 served.1 served.2) c.in_ok-finish-in-Ends.ensures.ok,
      subst (λ j. Holds (g.D.Appends.kept j.disk) c.in-Ends.ended.history) (sym c.in_ok-finish-in-Ends.ensures.journal)
          served.1,
    )

pub returns-in_ok-finish-in-Turns-clause-ok : goal.returns-in_ok-finish-in-Turns-clause-ok
returns-in_ok-finish-in-Turns-clause-ok g c =
    let served = rw c.in-Turns.is at c.in_ok-ended.ensures.served in
    let ended = c.in_ok-ended-in-Turns.ended in
    let closed = c.in_ok-ended-in-Turns.ensures.closes in (
      wrote _ _ _ _ _ (option_map durable (g.S.Draft.Draft.stage ended.journal.disk.draft)) _ _
          (closes_later _ _ _ _ _ _ _ _ served.0 closed) c.in_ok-finish-in-Turns.ensures.ok,
      subst (λ j. Holds (option_map durable (g.S.Draft.Draft.stage j.disk.draft)) ended.history)
          (sym c.in_ok-finish-in-Turns.ensures.journal) closed.holds,
    )

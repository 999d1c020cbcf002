use Rattle.std.proofs.Common.{List, inl, inr, sym, ◌∙◌, subst}
use Rattle.mud_chron.specs.Entry.{Entry}
use Rattle.mud_server_end.proofs.Written.{any_err}
use Rattle.mud_server.specs.Volumes.{MayLast}
use Rattle.mud_server.proofs.Chained.{lasts, turns, turn_stops}
use Rattle.mud_server.proofs.volumes.serve_until_turn.Goals as goal

pub returns-in_err-ended-clause-stopped : goal.returns-in_err-ended-clause-stopped
returns-in_err-ended-clause-stopped g c = any_err c.from_residual.result (inl c.loop.invariant.still)

pub returns-in_err-next-clause-stopped : goal.returns-in_err-next-clause-stopped
returns-in_err-next-clause-stopped g c =
    let served = rw c.in-Turns.is at c.in_ok-ended.ensures.served in
    any_err c.from_residual-in_err-next.result
    (turn_stops _ _ _ _ (g.D.Appends.kept c.in-Turns.resting.rested.journal.disk) _ _ _ c.loop.invariant.lasted
    served.0 served.1.holds c.loop.invariant.still c.in_err-next.ensures.stopped)

pub returns-in-Ends-clause-served : goal.returns-in-Ends-clause-served
returns-in-Ends-clause-served g c =
    let served = rw c.in-Ends.is at c.in_ok-ended.ensures.served in
    (lasts _ _ _ _ c.loop.invariant.lasted served.0, served.1, c.loop.invariant.still)

pub returns-in-Next-clause-served : goal.returns-in-Next-clause-served
returns-in-Next-clause-served g c =
    let served = rw c.in-Turns.is at c.in_ok-ended.ensures.served in
    let turned = rw c.in-Next.is at c.in_ok-next.ensures.turned in (
      turns _ _ _ _ _ (g.D.Appends.kept c.in-Turns.resting.rested.journal.disk) _ _ _ c.loop.invariant.lasted served.0
          served.1.holds turned.0 c.loop.invariant.still turned.2,
      turned.1,
    )

pub loop-preserved : goal.loop-preserved
loop-preserved g c =
    let served = rw c.in-Turns.is at c.in_ok-ended.ensures.served in
    let turned = rw c.in-Same.is at c.in_ok-next.ensures.turned in
    record {
      lasted = inr (subst (λ (l : List Entry). MayLast c.args.terms.limits c.args.going.beginning.hall.loaded l)
          (sym turned.0) (lasts _ _ _ _ c.loop.invariant.lasted served.0));
      ready = turned.1;
      still = turned.2 ∙ c.loop.invariant.still;
    }

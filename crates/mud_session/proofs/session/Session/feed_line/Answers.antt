use Rattle.std.proofs.Common.{◌++◌, refl, arith, sym, ap, subst, ◌∙◌}
use Rattle.std.proofs.lemmas.List.{take_all}
use Rattle.mud_nvt.specs.UnitViews.{all_shown}
use Rattle.mud_nvt.specs.Held.{Held}
use Rattle.mud_nvt.specs.History.{StandsAfter}
use Rattle.mud_session.specs.State.{SessionState}
use Rattle.mud_session.proofs.Taking.{SoFar-start, SoFar-more, SoFar-terminal, Fed-more, same_terminal}
use Rattle.mud_session.proofs.session.Session.feed_line.Goals as goal

pub loop-unit-init : goal.loop-unit-init
loop-unit-init g c = record {
  terminal = refl;
  capacity = refl;
  so_far = λ xs start begun s. SoFar-start g.D.Door.takes_in xs start _ begun _ s;
}

pub loop-unit-preserved : goal.loop-unit-preserved
loop-unit-preserved g c = record {
  terminal = same_terminal g.D.Door.takes_in _ _ _ _ _ c.answer.ensures.over c.in_ok-answer.ensures.turn
      ∙ c.loop-unit.invariant.terminal;
  capacity = c.answer.ensures.capacity ∙ c.loop-unit.invariant.capacity;
  so_far = λ xs start begun s.
      SoFar-more g.D.Door.takes_in xs c.as_slice-unit-items.result.now c.loop-unit.unit-index c.unit-item.result
      _ _ _ _ _ _ (omega arith) c.unit-item.is (c.loop-unit.invariant.so_far xs start begun s)
      c.answer.ensures.capacity c.answer.ensures.over c.in_ok-answer.ensures.turn;
}

pub returns-clause-fed : goal.returns-clause-fed
returns-clause-fed g c = λ earlier front start begun fed.
    let took = c.in-Ok.ensures.ok in
    let was = subst (λ (h : Held). StandsAfter h (earlier ++ front)) (sym c.recycle.ensures.terminal)
    (subst (λ (s : SessionState). StandsAfter s.terminal (earlier ++ front)) (sym c.self.view_is) fed.stands) in
    let grows = took.grows (earlier ++ front) was in
    let given = ap all_shown (take_all c.loop-unit.unit-index c.as_slice-unit-items.result.now (omega arith)
    ∙ c.as_slice-unit-items.ensures.value) ∙ grows.1 ∙ ap (λ l. all_shown l ++ grows.0) c.recycle.ensures.units in
    Fed-more g.D.Door.takes_in earlier front c.args.bytes.now start c.args.self.now c.loop-unit.self begun _ _ grows.0
    fed (subst (λ h. StandsAfter h ((earlier ++ front) ++ c.args.bytes.now)) (sym c.loop-unit.invariant.terminal)
    (took.stands (earlier ++ front) was)) grows.2
    (rw given at (c.loop-unit.invariant.so_far fed.fresh start begun
    (SoFar-terminal g.D.Door.takes_in fed.fresh start c.args.self.now _ begun _
    (ap (λ (s : SessionState). s.has_ended) c.self.view_is) (ap (λ (s : SessionState). s.out) c.self.view_is)
    fed.so_far)))

use Rattle.std.proofs.Common.{◌≡◌, ◌+◌, ◌-◌, take_all, arith, sym, ap, ◌∙◌, refl, subst}
use Rattle.std.proofs.Math.Seq.{take-add}
use Rattle.mud_nvt.specs.Held.{Held}
use Rattle.mud_session.specs.State.{SessionState}
use Rattle.mud_session.specs.Feeds.{Feeds}
use Rattle.mud_session.proofs.Taking.{Fed-none, Feeds-from}
use Rattle.mud_session.proofs.session.Session.feed.Goals as goal

pub loop-taken-init : goal.loop-taken-init
loop-taken-init g c = record {
  within = omega arith;
  capacity = refl;
  fed = λ earlier stands.
      Fed-none g.D.Door.takes_in earlier _ _
      (sym (ap (λ (s : SessionState). s.has_ended) c.self.view_is) ∙ c.if-self.false) stands;
}

pub loop-taken-preserved : goal.loop-taken-preserved
loop-taken-preserved g c =
    let line : c.loop-taken.taken + c.line_len.result - c.loop-taken.taken ≡ c.line_len.result = omega arith in
    record {
      within = omega (arith, c.line_len.ensures.within);
      capacity = c.feed_line.ensures.capacity ∙ c.loop-taken.invariant.capacity;
      fed = λ earlier stands.
          rw (take-add c.loop-taken.taken c.line_len.result c.args.bytes.now)
          (rw line at (c.in-Ok.ensures.fed earlier _ _ _ (c.loop-taken.invariant.fed earlier stands)));
    }

pub returns-clause-ok : goal.returns-clause-ok
returns-clause-ok g c = λ earlier stands.
    let left : SessionState = record {
      terminal = c.recycle.new.terminal;
      has_ended = c.self-2.inside.has_ended;
      out = c.self-2.inside.out.items;
    } in
    let same : c.loop-taken.self ≡ left =
    sym (ap (λ (h : Held). record left { terminal = h }) c.recycle.ensures.terminal ∙ c.self-2.view_is) in
    subst (λ (s : SessionState). Feeds g.D.Door.takes_in earlier c.args.bytes.now c.args.self.now s
    (g.D.Door.state c.args.door.now) (g.D.Door.state c.loop-taken.door)) same
    (Feeds-from g.D.Door.takes_in earlier c.args.bytes.now c.args.self.now c.loop-taken.self _ _
    (sym (ap (λ (s : SessionState). s.has_ended) c.self.view_is) ∙ c.if-self.false)
    (rw (take_all c.loop-taken.taken c.args.bytes.now c.loop-taken-test.false)
    at (c.loop-taken.invariant.fed earlier stands)))

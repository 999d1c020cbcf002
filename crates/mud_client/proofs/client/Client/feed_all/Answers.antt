use Rattle.std.proofs.Common.{◌≡◌, ◌<◌, ◌++◌, List, ℕ, [], true, refl, sym, ap, subst, ◌∙◌, length}
use Rattle.mud_session.specs.State.{SessionState}
use Rattle.mud_client.specs.Client.{ClientState, state_of}
use Rattle.mud_client.specs.Steps.{saying, first_line, FeedsLine}
use Rattle.mud_client.proofs.Feeding.{shorter, none_waits, fed_none, fed_more, all_fed}
use Rattle.mud_client.proofs.Stepping.{silent_kept}
use Rattle.mud_client.proofs.client.Client.feed_all.Given.{Over}
use Rattle.mud_client.proofs.client.Client.feed_all.Goals as goal
use Rattle.mud_client.proofs.client.Client.feed_all.Goals.{In_ok-after}
use Rattle.mud_client.proofs.client.Client.feed_all.Goals.{then-loop-client-test+else-not-ended, else-loop-client-test}

-- one more line was fed
fed : (g : Over) (c : In_ok-after g) → FeedsLine (saying [] c.loop-client.client) c.in_ok-after.after
fed g c =
    let inside = c.client.inside in
    subst (λ (x : ClientState). FeedsLine (saying [] x) c.in_ok-after.after) (rw (sym c.deref_mut.ensures.value) at
    c.client.view_is)
    (subst (λ (s : SessionState). FeedsLine
    (state_of (length g.J.HallName.cells) c.deref_mut.result.now.framing c.deref_mut.result.now.waiting.items s
    inside.desk.state inside.has_ended)
    c.in_ok-after.after) c.take_out.ensures.rest c.in_ok-after.ensures.ok)

pub loop-client-init : goal.loop-client-init
loop-client-init g c = ([], [], fed_none c.args.self c.requires.ended c.requires.open_still)

pub invariant_of-client : goal.invariant_of-client
invariant_of-client g c =
    let inside = c.client.inside in
    silent_kept
    (state_of (length g.J.HallName.cells) c.deref_mut.result.now.framing c.deref_mut.result.now.waiting.items
    c.deref_mut.result.now.session inside.desk.state
    inside.has_ended) c.deref_mut.result.now.framing c.take_out.new.self refl c.take_out.ensures.rest (rw (sym
    c.deref_mut.ensures.value) at c.client.invariant)

pub loop-client-smaller : goal.loop-client-smaller
loop-client-smaller g c =
    let waiting = c.deref.result.now.waiting in
    let after : List ℕ = c.in_ok-after.after.waiting in
    subst (λ (x : ClientState). length after < length x.waiting) (rw (sym c.deref.ensures) at c.client.view_is)
    (shorter waiting.items after _ waiting.ok.0 c.loop-client-test.ensures
    (rw (c.deref_mut.ensures.value, sym c.deref.ensures) at c.in_ok-after.ensures.ok.rest))

pub loop-client-preserved : goal.loop-client-preserved
loop-client-preserved g c =
    let was = c.loop-client.invariant in
    let mid : ClientState = c.loop-client.client in (
      was.0 ++ first_line mid.waiting,
      was.1 ++ mid.session.out,
      fed_more was.0 was.1 c.args.self mid c.in_ok-after.after was.2
          (fed g (goal.at.loop-client-preserved g c).In_ok-after),
    )

pub returns : goal.returns
returns g c =
    let was = c.loop-client.invariant in
    let waiting = c.deref.result.now.waiting in
    let now : ClientState = c.loop-client.client in
    elim c.loop-client-test.branch [
      | then-loop-client-test+else-not-ended w ↦
          let ended : now.session.has_ended ≡ true =
          ap (λ (x : ClientState). x.session.has_ended) (sym (rw (sym w.deref-in-loop-client.ensures) at
          c.client.view_is))
          ∙ sym w.if-not-ended.ensures in
          all_fed was.0 was.1 c.args.self now was.2 (λ going. absurd (cc (ended, going)))
      | else-loop-client-test w ↦
          let none : now.waiting ≡ [] =
          ap (λ (x : ClientState). x.waiting) (sym (rw (sym c.deref.ensures) at c.client.view_is))
          ∙ none_waits waiting.items _ waiting.ok.0 w.loop-client-test.ensures in
          all_fed was.0 was.1 c.args.self now was.2 (λ going. none)
    ]

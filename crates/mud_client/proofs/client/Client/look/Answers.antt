use Rattle.std.proofs.Common.{◌≡◌, false, length, OnOk, sym, ap, subst, ◌∙◌}
use Rattle.std.proofs.Math.Logic.{∥∥₁_map}
use Rattle.mud_hall.specs.Desk.{TakesIn}
use Rattle.mud_session.specs.Feeds.{Nudges}
use Rattle.mud_client.specs.Client.{ClientState, state_of}
use Rattle.mud_client.specs.Steps.{LooksFor}
use Rattle.mud_client.proofs.Stepping.{looked_at, looked_sound, looked_names}
use Rattle.mud_client.proofs.client.Client.look.Given.{Over}
use Rattle.mud_client.proofs.client.Client.look.Goals as goal
use Rattle.mud_client.proofs.client.Client.look.Goals.{In-Ok}

-- the client before, and after
abbrev before : (g : Over) (c : In-Ok g) → ClientState
before g c =
    let inside = c.self.inside in
    state_of (length g.J.HallName.cells) c.deref_mut-parts.result.now.framing c.deref_mut-parts.result.now.waiting.items
    c.deref_mut-parts.result.now.session inside.desk.state
    inside.has_ended

abbrev after : (g : Over) (c : In-Ok g) → ClientState
after g c =
    state_of (length g.J.HallName.cells) c.deref_mut-parts.result.now.framing c.deref_mut-parts.result.now.waiting.items
    c.nudge-looked.new.self
    c.into_desk.result.state c.is_err.result

going : (g : Over) (c : In-Ok g) → c.self.inside.has_ended ≡ false
going g c = ap (λ (x : ClientState). x.has_ended) c.self.view_is ∙ c.requires.open_still

looks : (g : Over) (c : In-Ok g) → LooksFor (before g c) (after g c)
looks g c =
    let inside = c.self.inside in
    let none : c.is_err.result ≡ false = cc in
    looked_at (length g.J.HallName.cells) c.deref_mut-parts.result.now.framing
    c.deref_mut-parts.result.now.waiting.items c.deref_mut-parts.result.now.session c.nudge-looked.new.self
    inside.desk.state c.into_desk.result.state _ c.up_to-seat.result c.nudge-looked.new.door inside.has_ended
    c.is_err.result c.up_to-seat.ensures c.into_desk.ensures.state (none ∙ sym (going g c))
    (subst (λ r. OnOk r (Nudges TakesIn c.deref_mut-parts.result.now.session c.nudge-looked.new.self c.up_to-seat.result
    c.nudge-looked.new.door)) c.in-Ok.is c.nudge-looked.ensures.ok)

pub invariant_of-client : goal.invariant_of-client
invariant_of-client g c =
    let p = (goal.at.invariant_of-client g c).In-Ok in
    ∥∥₁_map (rw (sym c.deref_mut-parts.ensures.value) at c.self.invariant) (λ i still. looked_sound (before g p) (after
    g p) (looks g p) (i (going g p)))

pub returns-in-Ok-clause-ok : goal.returns-in-Ok-clause-ok
returns-in-Ok-clause-ok g c =
    let p = (goal.at.returns-in-Ok-clause-ok g c).In-Ok in
    subst (λ (x : ClientState). LooksFor x (after g p))
    (rw (sym c.deref_mut-parts.ensures.value) at c.self.view_is) (looks g p)

pub returns-in-Ok-clause-names : goal.returns-in-Ok-clause-names
returns-in-Ok-clause-names g c =
    let p = (goal.at.returns-in-Ok-clause-names g c).In-Ok in
    ∥∥₁_map (rw (sym c.deref_mut-parts.ensures.value) at c.self.invariant) (λ i. looked_names (before g p) (after g p)
    (looks g p) (i (going g p)))

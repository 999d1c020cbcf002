use Rattle.std.proofs.Common.{◌≡◌, false, length, sym, subst}
use Rattle.mud_session.specs.State.{SessionState}
use Rattle.mud_client.specs.Client.{state_of, IsSound}
use Rattle.mud_client.proofs.client.Client.reuse.Goals as goal

pub invariant_of-self : goal.invariant_of-self
invariant_of-self g c =
    let inside = c.self.inside in
    let link = c.deref_mut-link.result.now in
    subst (λ (s : SessionState). ∥ (inside.has_ended ≡ false → IsSound
    (state_of (length g.J.HallName.cells) link.framing link.waiting.items s inside.desk.state inside.has_ended)) ∥₁)
    (sym c.reuse.ensures) (rw (sym c.deref_mut-link.ensures.value) at c.self.invariant)

use Rattle.std.proofs.Common.{◌≡◌, false, length, sym, subst}
use Rattle.mud_client.specs.declared.framing.Framing.{Framing}
use Rattle.mud_client.specs.Client.{state_of, IsSound}
use Rattle.mud_client.proofs.client.Client.announce.Goals as goal

pub invariant_of-self : goal.invariant_of-self
invariant_of-self g c =
    let inside = c.self.inside in
    let link = c.deref_mut.result.now in
    subst (λ (f : Framing). ∥ (inside.has_ended ≡ false → IsSound
    (state_of (length g.J.HallName.cells) f link.waiting.items link.session inside.desk.state inside.has_ended)) ∥₁)
    (sym c.say_last.ensures.same) (rw (sym c.deref_mut.ensures.value) at c.self.invariant)

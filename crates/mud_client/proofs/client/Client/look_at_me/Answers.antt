use Rattle.std.proofs.Common.{◌≡◌, false, length, sym, subst}
use Rattle.mud_hall.specs.Desk.{DeskState}
use Rattle.mud_client.specs.Client.{state_of, IsSound}
use Rattle.mud_client.proofs.client.Client.look_at_me.Goals as goal

pub invariant_of-self : goal.invariant_of-self
invariant_of-self g c =
    let inside = c.self.inside in
    subst (λ (d : DeskState). ∥ (inside.has_ended ≡ false → IsSound
    (state_of (length g.J.HallName.cells) inside.link.value.framing inside.link.value.waiting.items
    inside.link.value.session d inside.has_ended)) ∥₁)
    (sym c.ask.ensures.same) c.self.invariant

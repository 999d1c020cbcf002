use Rattle.std.proofs.Common.{◌≡◌, ℕ, [], Option, length, refl, ap, subst, sym, ◌∙◌}
use Rattle.mud_hall.specs.Desk.{View, as_guest}
use Rattle.mud_client.specs.Client.{ClientState, state_of}
use Rattle.mud_client.specs.Resting.{RestingState, resting_of, at_rest}
use Rattle.mud_client.proofs.Going.{rests_so}
use Rattle.mud_client.proofs.client.Client.rest.Goals as goal

pub invariant_of-resting : goal.invariant_of-resting
invariant_of-resting g c =
    let inside = c.self.inside in
    rests_so
    (state_of (length g.J.HallName.cells) inside.link.value.framing inside.link.value.waiting.items
    inside.link.value.session inside.desk.state
    inside.has_ended)
    (resting_of inside.link.value.framing inside.link.value.waiting.items inside.link.value.session
    c.player-player.result inside.has_ended)
    (ap (λ (p : Option ℕ). resting_of inside.link.value.framing inside.link.value.waiting.items
    inside.link.value.session p inside.has_ended)
    c.player-player.ensures.player) (rw c.deref.ensures at c.if-not-is_silent.ensures.silent refl) c.self.invariant

pub returns-clause-rests : goal.returns-clause-rests
returns-clause-rests g c =
    let inside = c.self.inside in
    let resting : RestingState =
    resting_of inside.link.value.framing inside.link.value.waiting.items inside.link.value.session
    c.player-player.result inside.has_ended in
    subst (λ (x : ClientState). resting ≡ at_rest x) c.self.view_is
    (ap (λ (p : Option ℕ). resting_of inside.link.value.framing inside.link.value.waiting.items
    inside.link.value.session p inside.has_ended)
    c.player-player.ensures.player)

pub returns-clause-silent : goal.returns-clause-silent
returns-clause-silent g c =
    let silent = rw c.deref.ensures at c.if-not-is_silent.ensures.silent refl in
    subst (λ (x : ClientState). x.session.out ≡ []) c.self.view_is silent

pub returns-clause-desk : goal.returns-clause-desk
returns-clause-desk g c =
    ap (λ (v : View). v.state) c.guest.ensures ∙ ap (λ (x : ClientState). as_guest x.desk) c.self.view_is

pub returns-then-not-is_silent-clause-err : goal.returns-then-not-is_silent-clause-err
returns-then-not-is_silent-clause-err g c = (
  refl,
  λ silent. (rw c.deref.ensures at c.if-not-is_silent.ensures.waits refl)
      (ap (λ (x : ClientState). x.session.out) c.self.view_is ∙ silent),
)

use Rattle.std.proofs.Common.{length, ap, false, refl}
use Rattle.mud_hall.specs.Desk.{View}
use Rattle.mud_client.specs.Client.{ClientState, state_of}
use Rattle.mud_client.proofs.Stepping.{begins, sound_new}
use Rattle.mud_client.proofs.client.Client.new.Goals as goal

pub invariant_of-result : goal.invariant_of-result
invariant_of-result g c =
    let begun = c.in-Ok.ensures in
    let client : ClientState =
    state_of (length g.J.HallName.cells) c.args.framing c.new-2.result.items c.in-Ok.session c.guest.new.self.state
    false in
    rw c.in-Ok-new.ensures.ok (∣ (λ going. sound_new client c.args.desk.state c.requires c.new-2.ensures.items
    begun.terminal begun.open_still
    begun.out (ap (λ (d : View). d.state) c.guest.ensures) refl) ∣₁)

pub returns-clause-stands : goal.returns-clause-stands
returns-clause-stands g c =
    let begun = c.in-Ok.ensures in
    let client : ClientState =
    state_of (length g.J.HallName.cells) c.args.framing c.new-2.result.items c.in-Ok.session c.guest.new.self.state
    false in
    rw c.in-Ok-new.ensures.ok (begins client c.args.desk.state c.requires c.new-2.ensures.items begun.terminal
    begun.open_still
    begun.out (ap (λ (d : View). d.state) c.guest.ensures))

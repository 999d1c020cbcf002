use Rattle.std.proofs.Common.{◌≡◌, Option, ℕ, length, refl, ap, subst, sym, ◌∙◌}
use Rattle.mud_hall.specs.Steps.{IsSeated}
use Rattle.mud_client.specs.Client.{ClientState, state_of}
use Rattle.mud_client.specs.Resting.{RestingState, at_rest}
use Rattle.mud_client.proofs.Going.{again_kept, again_stands}
use Rattle.mud_client.proofs.client.Client.again.Given.{Over}
use Rattle.mud_client.proofs.client.Client.again.Goals as goal

pub invariant_of-client : goal.invariant_of-client
invariant_of-client g c =
    let inside = c.resting.inside in
    let desk = c.sit-sits.new.desk.state in
    again_kept _
    (state_of (length g.J.HallName.cells) inside.link.value.framing inside.link.value.waiting.items
    inside.link.value.session desk inside.has_ended)
    refl c.sit-sits.ensures.told c.resting.invariant

pub returns-clause-same : goal.returns-clause-same
returns-clause-same g c =
    let desk = c.sit-sits.new.desk.state in
    ap (λ (r : RestingState). record r { player = desk.player }) c.resting.view_is

pub returns-clause-desk : goal.returns-clause-desk
returns-clause-desk g c =
    let desk = c.sit-sits.new.desk.state in
    subst (λ (r : RestingState). IsSeated (length g.J.HallName.cells) r.player c.sit-sits.result c.args.desk.state desk)
    c.resting.view_is c.sit-sits.ensures

pub returns-clause-stands : goal.returns-clause-stands
returns-clause-stands g c client start came sent is going s =
    let inside = c.resting.inside in
    let desk = c.sit-sits.new.desk.state in
    again_stands start came sent client
    (state_of (length g.J.HallName.cells) inside.link.value.framing inside.link.value.waiting.items
    inside.link.value.session desk inside.has_ended)
    (ap (λ (r : RestingState). record r { player = desk.player }) (c.resting.view_is ∙ is))
    (ap (λ (r : RestingState). r.session.has_ended) (sym is) ∙ going) c.sit-sits.ensures.told s

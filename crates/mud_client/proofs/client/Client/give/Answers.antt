use Rattle.std.proofs.Common.{length, ap, ◌∙◌}
use Rattle.mud_client.specs.Client.{ClientState, state_of}
use Rattle.mud_client.proofs.Stepping.{given_sound}
use Rattle.mud_client.proofs.client.Client.give.Goals as goal

pub invariant_of-client : goal.invariant_of-client
invariant_of-client g c =
    let inside = c.client.inside in
    given_sound c.args.end
    (state_of (length g.J.HallName.cells) inside.link.value.framing inside.link.value.waiting.items
    inside.link.value.session inside.desk.state
    inside.has_ended) c.is_some.result c.is_some.ensures
    (λ none. ap (λ (x : ClientState). x.has_ended) c.client.view_is ∙ c.requires none) c.client.invariant

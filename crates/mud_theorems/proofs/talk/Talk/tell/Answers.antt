use Rattle.std.proofs.Common.{◌≡◌, true, [], Option, Some, sym, ap, ◌∙◌, subst}
use Rattle.std.proofs.Math.Logic.{∥∥₁_map}
use Rattle.mud_client.specs.declared.outgoing.End.{End}
use Rattle.mud_client.specs.Client.{ClientState}
use Rattle.mud_client.specs.Steps.{IfDone}
use Rattle.mud_theorems.specs.inner.Talking.{IsQuiet}
use Rattle.mud_theorems.proofs.talk.Talk.tell.Goals as goal

pub send-requires-clause-rests : goal.send-requires-clause-rests
send-requires-clause-rests g c =
    let out = c.args.outgoing in
    ∥∥₁_map
    (subst (λ (e : Option End). IfDone e (∥ IsQuiet c.args.client out.end out.has_more ∥₁)) c.in-None.is
    c.requires.rests)
    (λ q none. (q.0, q.1 c.in-None.is none))

pub over-requires : goal.over-requires
over-requires g c =
    let out = c.args.outgoing in
    let quit = c.in-Some.is ∙ ap Some c.in-Quit.is in
    ∥∥₁_map
    (subst (λ (e : Option End). IfDone e (∥ IsQuiet c.args.client out.end out.has_more ∥₁)) quit c.requires.rests)
    (λ q.
    subst (λ (s : ClientState). (s.session.has_ended ≡ true) × (s.session.out ≡ [])) (sym c.in-Ok-send.ensures.client)
    (q.2 quit, q.0))

use Rattle.std.proofs.Common.{◌≡◌, [], length, Option, None, Some, is_some, ◌⊎◌, inl, inr}
use Rattle.std.proofs.Common.{refl, sym, ap, subst, ◌∙◌}
use Rattle.std.proofs.Math.Logic.{∥∥₁_map}
use Rattle.mud_session.specs.Laws.{NamesSeen}
use Rattle.mud_client.specs.declared.outgoing.End.{End}
use Rattle.mud_client.specs.declared.outgoing.End.TheVariants.{Quit}
use Rattle.mud_client.specs.Framed.{framed}
use Rattle.mud_client.specs.Client.{ClientState, state_of}
use Rattle.mud_client.specs.Steps.{output_of, Says}
use Rattle.mud_client.proofs.Leaving.{said_names}
use Rattle.mud_client.proofs.Stepping.{silent_kept, says_so, said_end}
use Rattle.mud_client.proofs.client.Client.say.Goals as goal
use Rattle.mud_client.proofs.client.Client.say.Goals.{then-client, else-client}

pub new-text-requires : goal.new-text-requires
new-text-requires g c = record {
  tells = ∥∥₁_map
      (subst (λ (x : ClientState). ∥ NamesSeen x.session x.desk ∥₁) (sym (rw (sym c.deref_mut-link.ensures.value) at
      c.client.view_is)) c.requires)
      (λ names.
      said_names c.deref_mut-link.result.now.framing (length c.client.inside.desk.state.seen) c.seen.result
      c.deref_mut-link.result.now.session.out c.deref_mut-link.result.now.session.out c.in-Ok.bytes.items names.out
      refl c.in-Ok.ensures.text c.seen.ensures.seen);
}

pub invariant_of-client : goal.invariant_of-client
invariant_of-client g c =
    let inside = c.client.inside in
    silent_kept
    (state_of (length g.J.HallName.cells) c.deref_mut-link.result.now.framing c.deref_mut-link.result.now.waiting.items
    c.deref_mut-link.result.now.session inside.desk.state
    inside.has_ended) c.frame.new.self c.frame.new.session c.frame.ensures.same c.frame.ensures.session
    (rw (sym c.deref_mut-link.ensures.value) at c.client.invariant)

pub invariant_of-client-in-Err : goal.invariant_of-client-in-Err
invariant_of-client-in-Err g c =
    let inside = c.client.inside in
    silent_kept
    (state_of (length g.J.HallName.cells) c.deref_mut-link.result.now.framing c.deref_mut-link.result.now.waiting.items
    c.deref_mut-link.result.now.session inside.desk.state
    inside.has_ended) c.frame.new.self c.frame.new.session c.frame.ensures.same c.frame.ensures.session
    (rw (sym c.deref_mut-link.ensures.value) at c.client.invariant)

pub give-requires : goal.give-requires
give-requires g c none =
    elim c.if-client.branch [
      | then-client w ↦ absurd (cc (w.end-is, none))
      | else-client w ↦ w.if-client.false
    ]

pub returns-after-client-clause-says : goal.returns-after-client-clause-says
returns-after-client-clause-says g c =
    let inside = c.client.inside in
    let old : ClientState =
    state_of (length g.J.HallName.cells) c.deref_mut-link.result.now.framing c.deref_mut-link.result.now.waiting.items
    c.deref_mut-link.result.now.session inside.desk.state
    inside.has_ended in
    let out = output_of c.give.result.1 in
    let which : (c.if-client.end ≡ Some Quit) ⊎ (c.if-client.end ≡ None) =
    elim c.if-client.branch [
      | then-client w ↦ inl w.end-is
      | else-client w ↦ inr w.end-is
    ] in
    let ended : is_some c.if-client.end ≡ inside.has_ended =
    elim c.if-client.branch [
      | then-client w ↦ ap (λ (e : Option End). is_some e) w.end-is ∙ sym w.if-client.true
      | else-client w ↦ ap (λ (e : Option End). is_some e) w.end-is ∙ sym w.if-client.false
    ] in
    let gives : out.text ≡ framed c.deref_mut-link.result.now.framing c.deref_mut-link.result.now.session.out =
    ap (λ h. h.text.items) c.give.ensures.text ∙ ap (λ v. v.items) c.new-text.ensures.text ∙ c.in-Ok.ensures.text in
    let version : out.version ≡ length inside.desk.state.seen =
    ap (λ h. h.version) c.give.ensures.text ∙ c.new-text.ensures.version ∙ c.seen.ensures.seen in
    said_end (Says c.args.has_line c.args.self c.give.result.0 out) (out.text ≡ []) (λ e. ⊥) c.if-client.end
    out.end c.give.ensures.end which
    (subst (λ (x : ClientState). Says c.args.has_line x c.give.result.0 out)
    (rw (sym c.deref_mut-link.ensures.value) at c.client.view_is)
    (says_so c.args.has_line c.if-client.end old c.frame.new.self c.frame.new.session c.give.result.0 out
    c.frame.ensures.same c.frame.ensures.session c.give.ensures.client ended gives version c.give.ensures.line))

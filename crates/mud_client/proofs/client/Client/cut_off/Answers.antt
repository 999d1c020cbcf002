use Rattle.std.proofs.Common.{◌≡◌, sym, ap, subst, ◌∙◌, inr, true, Option, []}
use Rattle.std.proofs.Math.Logic.{∥∥₁_map}
use Rattle.mud_web.specs.declared.fault.Fault.{Fault}
use Rattle.mud_web.specs.declared.fault.Fault.TheVariants.{Over}
use Rattle.mud_web.specs.Channel.{IfOver}
use Rattle.mud_client.specs.declared.outgoing.End.{End}
use Rattle.mud_client.specs.Sayings.{AreReplies}
use Rattle.mud_client.specs.Steps.{MatchEnd, IsFedAll}
use Rattle.mud_client.proofs.Stepping.{fed_all}
use Rattle.mud_client.proofs.client.Client.cut_off.Goals as goal

pub new-requires : goal.new-requires
new-requires g c = record {
  tells = ∥∥₁_map
      (subst (λ (f : Fault). IfOver f (λ error. ∥ AreReplies c.args.replies.items ∥₁)) c.in-Over.is c.requires.replies)
      (λ replies. inr (inr replies));
}

pub returns-in-Ok-clause-over : goal.returns-in-Ok-clause-over
returns-in-Ok-clause-over g c =
    let text = c.give.result.1.text.text.items in
    let given : text ≡ c.args.replies.items =
    ap (λ h. h.text.items) c.give.ensures.text ∙ ap (λ v. v.items) c.new.ensures.text in
    subst (λ (end : Option End). MatchEnd end ⊥ (λ e. (c.args.fault ≡ Over e) × (text ≡ c.args.replies.items)
    × IsFedAll c.args.self c.give.result.0) (text ≡ [])) (sym c.give.ensures.end)
    (c.in-Over.is, given, fed_all c.args.self c.in-Ok.client c.give.result.0 true c.give.ensures.client c.in-Ok.ensures)

use Rattle.std.proofs.Common.{ℕ, List, [], ◌∷◌, Option, Some, refl, sym, ◌∙◌, ap, subst}
use Rattle.std.specs.Prelude.{All, IfSome}
use Rattle.mud_cert.specs.Certificate.{Account, Certificate, IsAmount}
use Rattle.mud_cert.specs.declared.cert.Conclusion.{Conclusion}
use Rattle.mud_cert.specs.declared.cert.Conclusion.TheVariants.{Route}
use Rattle.std.specs.Option.{option_map}
use Rattle.mud_guide.specs.Legs.{Leg}
use Rattle.mud_guide.specs.Ways.{cost_of}
use Rattle.mud_guide.specs.inner.Listings.{IsInside, AreListed}
use Rattle.mud_guide.proofs.Listings.{listed-first}
use Rattle.mud_search.specs.Least.{label_in}
use Rattle.mud_guide.proofs.Shown.{leg-inside}
use Rattle.mud_guide.proofs.Replies.{number-is, cost-limits, all-one, route-answer}
use Rattle.mud_guide.proofs.ask.route_from.Goals as goal

pub leg_to-requires-clause-least : goal.leg_to-requires-clause-least
leg_to-requires-clause-least c room = c.requires.least 0 room c.args.traveller.now refl

pub accounts_of-requires-clause-inside : goal.accounts_of-requires-clause-inside
accounts_of-requires-clause-inside c =
    let w = c.args.world.now in
    let sound = c.next_number-next.ensures.sound in
    let j = c.in_ok-leg.leg in
    let N : ℕ → Type 0 = λ n. All (IsInside n) c.from_ref.result.now in
    let P : List Leg → Type 0 = λ js. All (IsInside w.next) js in
    subst N (sym c.next_number-next.ensures.next)
    (subst P (sym c.from_ref.ensures.value)
    (all-one (IsInside w.next) j
    (leg-inside w sound c.args.traveller.now.player c.requires.traveller.player
    (Some c.args.room) j c.in_ok-leg.ensures)))

pub certificate-cert-requires-clause-conclusion : goal.certificate-cert-requires-clause-conclusion
certificate-cert-requires-clause-conclusion c =
    let w = c.args.world.now in
    let P : Option ℕ → Type 0 = λ o. IfSome o IsAmount in (
      c.in_ok-accounts.ensures.accounts.long ∙ c.from_ref.ensures.len,
      number-is w c.next_number-next.ensures.sound c.args.room c.requires.room,
      subst P (sym (c.cost_of.ensures ∙ ap (λ (j : Leg). option_map cost_of j.way) c.leg.view_is))
          (cost-limits w c.args.traveller.now c.in_ok-leg.leg c.args.room (label_in c.args.labels.now)
          c.requires.traveller c.in_ok-leg.ensures c.requires.least c.requires.bounded),
    )

pub returns : goal.returns
returns c =
    let w = c.args.world.now in
    let j = c.in_ok-leg.leg in
    let es = c.in_ok-accounts.accounts.items in
    let cert = c.certificate-cert.result in
    let made = c.certificate-cert.ensures in
    let labels = label_in c.args.labels.now in
    let M : List Account → Type 0 = λ xs. AreListed labels w.next (j ∷ []) xs in
    let N : ℕ → Type 0 = λ n. AreListed labels n (j ∷ []) es in
    let J : List Leg → Type 0 = λ xs. AreListed labels c.next_number-next.result xs es in
    let says : Option ℕ → Conclusion = λ o. Route c.args.room o in
    route-answer w c.next_number-next.ensures.sound c.args.version c.args.traveller.now
    labels c.args.room j cert _
    c.requires.traveller c.requires.least c.requires.room c.in_ok-leg.ensures
    (record {
      version = ap (λ (x : Certificate). x.version) made.is;
      form = ap (λ (x : Certificate). x.form) made.is;
      members = subst M (sym (ap (λ (x : Certificate). x.members) made.is))
          (subst N c.next_number-next.ensures.next (subst J c.from_ref.ensures.value
          (listed-first labels c.next_number-next.result c.from_ref.result.now es c.in_ok-accounts.ensures.accounts)));
      conclusion = ap (λ (x : Certificate). x.conclusion) made.is
          ∙ ap says (c.cost_of.ensures ∙ ap (λ (x : Leg). option_map cost_of x.way) c.leg.view_is);
      limits = made.limits;
    })
    refl c.in_ok-text.ensures refl

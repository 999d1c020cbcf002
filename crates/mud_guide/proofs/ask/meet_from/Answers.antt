use Rattle.std.proofs.Common.{◌≡◌, ℕ, ◌+◌, List, Option, length, refl, sym, ◌∙◌, ap, subst, arith}
use Rattle.std.specs.List.{AllZip}
use Rattle.mud_cert.specs.Certificate.{Account, Certificate}
use Rattle.mud_roads.specs.Passable.{Knowledge, roads_of}
use Rattle.mud_roads.specs.Walks.{Least}
use Rattle.mud_guide.specs.Legs.{Leg, IsLeg}
use Rattle.mud_guide.specs.inner.Listings.{AreListed}
use Rattle.mud_guide.proofs.Listings.{listed-first}
use Rattle.mud_guide.specs.Texts.{meet_text}
use Rattle.mud_search.specs.Least.{label_in}
use Rattle.mud_guide.proofs.Party.{allzip-length}
use Rattle.mud_guide.proofs.Replies.{meeting-limits, meet-answer}
use Rattle.mud_guide.proofs.ask.meet_from.Goals as goal

pub certificate-cert-requires-clause-conclusion : goal.certificate-cert-requires-clause-conclusion
certificate-cert-requires-clause-conclusion g c =
    let w = c.args.world.now in
    let listed = c.in_ok-listing.ensures in
    let R : Knowledge → Leg → Type 0 = λ t j. IsLeg w c.room_of.result t.player j in
    let long : length c.in_ok-listing.listing.accounts.items ≡ length c.args.party.now =
    listed.accounts.long ∙ allzip-length R c.args.party.now c.in_ok-listing.listing.legs.items listed.legs in
    let found = c.meeting_place-place.ensures in (
      omega (arith, long, c.requires.two),
      omega (arith, long, c.requires.few),
      meeting-limits w found.sound (label_in c.args.labels.now) c.requires.bounded
          (length c.args.party.now) (omega (arith, c.requires.two))
          c.meeting_place-place.result found.room found.greatest,
    )

pub returns : goal.returns
returns g c =
    let w = c.args.world.now in
    let js = c.in_ok-listing.listing.legs.items in
    let listed = c.in_ok-listing.ensures in
    let found = c.meeting_place-place.ensures in
    let cert = c.certificate-cert.result in
    let made = c.certificate-cert.ensures in
    let labels = label_in c.args.labels.now in
    let M : List Account → Type 0 = λ es. AreListed labels w.next js es in
    let O : Option ℕ → Type 0 = λ o. AllZip (λ t j. IsLeg w o t.player j) c.args.party.now js in
    meet-answer w found.sound c.args.version c.args.party.now labels
    c.meeting_place-place.result js cert _
    c.requires.travellers c.requires.distinct (omega (arith, c.requires.two))
    c.requires.least found.place found.greatest
    (subst O c.room_of.ensures listed.legs)
    (record {
      version = ap (λ (x : Certificate). x.version) made.is;
      form = ap (λ (x : Certificate). x.form) made.is;
      members = subst M (sym (ap (λ (x : Certificate). x.members) made.is))
          (listed-first labels w.next js c.in_ok-listing.listing.accounts.items listed.accounts);
      conclusion = ap (λ (x : Certificate). x.conclusion) made.is;
      limits = made.limits;
    })
    refl (c.in_ok-text.ensures ∙ ap (meet_text c.meeting_place-place.result) c.as_slice.ensures.value) refl

pub list-requires-clause-members : goal.list-requires-clause-members
list-requires-clause-members g c = record {
  travellers = c.requires.travellers;
  least = λ m room t is.
      let P : ℕ → Type 0 = λ k.
      Least 1 (roads_of c.args.world.now t.player) t.place room (label_in c.args.labels.now k room) in
      let same : m ≡ 0 + m = omega arith in
      subst P same (c.requires.least m room t is);
  few = omega (arith, c.requires.few);
}

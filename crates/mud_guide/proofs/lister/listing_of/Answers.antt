use Rattle.std.proofs.Common.{◌≡◌, ℕ, ◌+◌, List, Option, length, sym, ◌∙◌, ap, subst, arith}
use Rattle.std.specs.Prelude.{All}
use Rattle.mud_roads.specs.declared.label.Label.{Label}
use Rattle.mud_roads.specs.Passable.{Knowledge}
use Rattle.mud_search.specs.Least.{label_in}
use Rattle.mud_guide.specs.Legs.{Leg, IsLeg}
use Rattle.mud_guide.specs.inner.Listings.{IsInside, AreListed}
use Rattle.mud_guide.proofs.Party.{allzip-length, legs-inside}
use Rattle.mud_guide.proofs.lister.listing_of.Goals as goal

pub accounts_of-requires-clause-members : goal.accounts_of-requires-clause-members
accounts_of-requires-clause-members c =
    let R : Knowledge → Leg → Type 0 = λ t j. IsLeg c.args.world.now c.args.to t.player j in
    let long : length c.as_slice.result.now ≡ length c.args.party.now =
    ap length c.as_slice.ensures.value
    ∙ allzip-length R c.args.party.now c.in_ok-legs.legs.items c.in_ok-legs.ensures in
    omega (arith, long, c.requires.members.few)

pub accounts_of-requires-clause-inside : goal.accounts_of-requires-clause-inside
accounts_of-requires-clause-inside c =
    let w = c.args.world.now in
    let sound = c.next_number-next.ensures.sound in
    let N : ℕ → Type 0 = λ n. All (IsInside n) c.as_slice.result.now in
    let P : List Leg → Type 0 = λ js. All (IsInside w.next) js in
    subst N (sym c.next_number-next.ensures.next)
    (subst P (sym c.as_slice.ensures.value)
    (legs-inside w sound c.args.to c.args.party.now c.in_ok-legs.legs.items
    c.requires.members.travellers c.in_ok-legs.ensures))

pub returns : goal.returns
returns c =
    let w = c.args.world.now in
    let labels : ℕ → ℕ → Option Label = λ m. label_in c.args.labels.now (c.args.first + m) in
    let es = c.in_ok-accounts.accounts.items in
    let N : ℕ → Type 0 = λ n. AreListed labels n c.in_ok-legs.legs.items es in
    let J : List Leg → Type 0 = λ js. AreListed labels c.next_number-next.result js es in
    record {
      legs = c.in_ok-legs.ensures;
      accounts = subst N c.next_number-next.ensures.next
          (subst J c.as_slice.ensures.value c.in_ok-accounts.ensures.accounts);
      limits = c.in_ok-accounts.ensures.limits;
    }

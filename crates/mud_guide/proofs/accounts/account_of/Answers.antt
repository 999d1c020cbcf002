use Rattle.std.proofs.Common.{◌∙◌, ap, sym, subst, arith}
use Rattle.std.specs.Option.{option_map}
use Rattle.mud_guide.proofs.Entries.{entries-limits, exits-limits}
use Rattle.mud_guide.specs.inner.Listings.{IsListed}
use Rattle.mud_guide.specs.Legs.{Leg}
use Rattle.mud_guide.specs.Ways.{exits_of}
use Rattle.mud_search.specs.Least.{label_in}
use Rattle.mud_guide.proofs.accounts.account_of.Goals as goal

pub new-requires : goal.new-requires
new-requires c =
    let player = ap (λ (j : Leg). j.player) c.leg.view_is in
    let from = ap (λ (j : Leg). j.from) c.leg.view_is in
    let way = ap (λ (j : Leg). option_map exits_of j.way) c.leg.view_is in
    record {
      player = omega (arith, player, c.requires.inside.player, c.requires.few);
      from = omega (arith, from, c.requires.inside.from, c.requires.few);
      entries = entries-limits (label_in c.args.labels.now c.args.member) c.args.next c.in_ok-entries.entries.items
          c.requires.few c.in_ok-entries.ensures
          (λ room l e. c.requires.bounded c.args.member room l e);
      rising = c.in_ok-entries.ensures.rising;
      exits = exits-limits c.args.next c.args.leg.now.way c.in_ok-walk.walk c.requires.few c.requires.inside.exits
          (c.in_ok-walk.ensures ∙ way);
    }

pub returns-clause-account : goal.returns-clause-account
returns-clause-account c =
    subst (IsListed (label_in c.args.labels.now c.args.member) c.args.next c.args.leg.now) (sym c.new.ensures)
    (record {
      player = ap (λ (j : Leg). j.player) c.leg.view_is;
      from = ap (λ (j : Leg). j.from) c.leg.view_is;
      entries = c.in_ok-entries.ensures;
      walk = c.in_ok-walk.ensures ∙ ap (λ (j : Leg). option_map exits_of j.way) c.leg.view_is;
    })

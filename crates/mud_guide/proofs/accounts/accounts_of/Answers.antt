use Rattle.std.proofs.Common.{ℕ, ◌+◌, ◌<◌, List, Option, length, get_or, sym, ◌∙◌, ap, subst}
use Rattle.std.specs.Prelude.{All}
use Rattle.std.proofs.lemmas.List.{length_push}
use Rattle.std.proofs.lemmas.List.Elements.{All-push}
use Rattle.mud_cert.specs.Certificate.{Account, IsAccount}
use Rattle.mud_roads.specs.declared.label.Label.{Label}
use Rattle.mud_search.specs.Least.{label_in}
use Rattle.mud_guide.specs.Legs.{Leg}
use Rattle.mud_guide.specs.inner.Listings.{IsListed}
use Rattle.mud_guide.proofs.Backs.{read-at}
use Rattle.mud_guide.proofs.Entries.{listed-push}
use Rattle.mud_guide.proofs.accounts.accounts_of.Goals as goal

pub loop-member-preserved : goal.loop-member-preserved
loop-member-preserved c =
    let labels : ℕ → ℕ → Option Label = λ n. label_in c.args.labels.now (c.args.first + n) in
    let js = c.args.legs.now in
    let es = c.loop-member.accounts.items in
    let m = c.loop-member.member in
    let e = c.in_ok-account_of.field-0 in
    let old = c.loop-member.invariant in
    let items = c.in_ok-push.ensures.items in
    let P : List Account → Type 0 = λ xs. (n : ℕ) (j : Leg) (a : Account) → n < length xs
    → IsListed (labels n) c.args.next (get_or js n j) (get_or xs n a) in
    record {
      long = ap length items ∙ length_push es e ∙ ap (λ (n : ℕ). n + 1) old.long;
      each = subst P (sym items)
          (listed-push labels c.args.next js es m e old.long old.each (λ j.
          let Q : Leg → Type 0 = λ x. IsListed (labels m) c.args.next x e in
          subst Q (sym
          (read-at js m c.index-legs-member.result j c.loop-member-test.true c.index-legs-member.is))
          c.in_ok-account_of.ensures.account));
      limits = subst (All IsAccount) (sym items) (All-push IsAccount es e old.limits c.in_ok-account_of.ensures.limits);
    }

use Rattle.std.proofs.Common.{◌≡◌, ◌∙◌, sym, refl, codes, true}
use Rattle.std.proofs.lemmas.Bool.Decides.{Decides-eqb}
use Rattle.std.proofs.lemmas.Slice.Eq.{starts_is}
use Rattle.mud_web.proofs.Bodies.{asks_from, head_behind}
use Rattle.mud_web.proofs.body.Body.of.Goals as goal

pub returns-then-starts_with : goal.returns-then-starts_with
returns-then-starts_with c = (
  λ h. asks_from c.args.head.now _ (sym c.behind_ends.ensures
      ∙ (starts_is Decides-eqb c.behind_ends.result.now (codes "HEAD ")
      c.starts_with.result c.starts_with.ensures.value).0
      c.if-starts_with.true),
  λ h. refl,
)

pub returns-else-starts_with : goal.returns-else-starts_with
returns-else-starts_with c = (
  λ h. absurd (cc h),
  λ asks.
      let behind = head_behind c.args.head.now asks in
      let yes : c.starts_with.result ≡ true =
      (starts_is Decides-eqb c.behind_ends.result.now (codes "HEAD ")
      c.starts_with.result c.starts_with.ensures.value).1
      behind.0 (c.behind_ends.ensures ∙ behind.1) in
      absurd (cc (yes, c.if-starts_with.false)),
)

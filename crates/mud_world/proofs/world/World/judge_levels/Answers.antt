use Rattle.std.proofs.Common.{◌≡◌, ◌∙◌, ℕ, Bool, false, List, get_or, ap}
use Rattle.std.specs.Prelude.{nat_eq}
use Rattle.std.specs.List.{list_any}
use Rattle.mud_world.proofs.Carrying.{next-level, if_ok-weaker}
use Rattle.mud_world.proofs.world.World.judge_levels.Goals as goal

pub returns-clause-answers : goal.returns-clause-answers
returns-clause-answers c =
    let w = c.args.self.now in
    let held = λ (a : ℕ). list_any (nat_eq a) c.args.holding.now in
    let one = λ (o : ℕ). c.in_ok-first.ensures.answers o
    ∙ next-level w held c.keyless.result.now 0 (from_items c.keyless.ensures c.requires.plain) o in
    let two = λ (o : ℕ). c.in_ok-second.ensures.answers o
    ∙ next-level w held c.deref.result.now 1 (from_items c.deref.ensures.value one) o in
    let three = λ (o : ℕ). c.in_ok-third.ensures.answers o
    ∙ next-level w held c.deref-2.result.now 2 (from_items c.deref-2.ensures.value two) o in
    if_ok-weaker c.judge_more-4.result _ _
    (λ after is o. is o ∙ next-level w held c.deref-3.result.now 3 (from_items c.deref-3.ensures.value three) o)
    c.judge_more-4.ensures.answers
  where
    from_items : {f : ℕ → Bool} {xs ys : List Bool} → xs ≡ ys → ((o : ℕ) → get_or ys o false ≡ f o) → (o : ℕ)
        → get_or xs o false ≡ f o
    from_items same is o = ap (λ (l : List Bool). get_or l o false) same ∙ is o

-- Labels are bounds on walks.
use Rattle.std.proofs.Common.{◌≡◌, ℕ, ◌+◌, List, [], ◌∷◌, Option, None, Some, refl, sym, ◌∙◌, ap, subst, arith}
use Rattle.std.specs.Prelude.{sum_by}
use Rattle.std.proofs.lemmas.List.Sums.{sum_by-cons}
use Rattle.mud_roads.specs.declared.label.Label.{Label}
use Rattle.mud_roads.specs.declared.label.Step.{Step}
use Rattle.mud_roads.specs.Walks.{Roads, Walk, AtMost, total, after}
use Rattle.mud_roads.specs.Labels.{start_label, Reaches, AreValid}
use Rattle.mud_roads.specs.Laws.{ValidIsLeast}

pub at_most-trans : (a b c : Label) → AtMost a b → AtMost b c → AtMost a c
at_most-trans a b c p q = (omega arith, λ e. omega arith)

-- the label after this walk
abbrev pub plus : ℕ → Label → List Step → Label
plus hop l ss =
    record { cost = l.cost + sum_by (λ (s : Step). s.cost) ss; exits = l.exits + sum_by (λ (s : Step). hop) ss }

pub at_most-plus : (hop : ℕ) (a b : Label) (ss : List Step) → AtMost a b → AtMost (plus hop a ss) (plus hop b ss)
at_most-plus hop a b ss p = (omega arith, λ e. omega arith)

pub plus-cons : (hop : ℕ) (l : Label) (s : Step) (ss : List Step)
    → AtMost (plus hop (after hop l s) ss) (plus hop l (s ∷ ss))
plus-cons hop l s ss =
    let costs = sum_by-cons (λ (x : Step). x.cost) s ss in
    let exits = sum_by-cons (λ (x : Step). hop) s ss in
    (omega (arith, costs), λ e. omega (arith, exits))

pub reaches-weaken : (labels : ℕ → Option Label) (room : ℕ) (a b : Label) → Reaches labels room a
    → AtMost a b → Reaches labels room b
reaches-weaken labels room a b (k, e, p) q = (k, e, at_most-trans k a b p q)

-- valid labels bound each walk that continues from a labelled room
pub walk_bounded : (hop : ℕ) (roads : Roads) (from : ℕ) (labels : ℕ → Option Label) → AreValid hop roads from labels
    → (ss : List Step) (at to : ℕ) (l : Label) → labels at ≡ Some l → Walk roads at ss to
    → Reaches labels to (plus hop l ss)
walk_bounded hop roads from labels v [] at to l e w =
    (l, ap labels (sym w) ∙ e, (omega arith, λ h. omega arith))
walk_bounded hop roads from labels v (s ∷ ss) at to l e (c, w) =
    let step : Reaches labels s.to (after hop l s) = v.steps at l s e c in
    let rest : Reaches labels to (plus hop step.0 ss) =
    walk_bounded hop roads from labels v ss s.to to step.0 step.1 w in
    let two : Reaches labels to (plus hop (after hop l s) ss) = reaches-weaken labels to (plus hop step.0 ss)
    (plus hop (after hop l s) ss) rest (at_most-plus hop step.0 (after hop l s) ss step.2) in
    reaches-weaken labels to (plus hop (after hop l s) ss) (plus hop l (s ∷ ss)) two (plus-cons hop l s ss)

-- so they bound each walk from the start
pub walk_from_start : (hop : ℕ) (roads : Roads) (from : ℕ) (labels : ℕ → Option Label) → AreValid hop roads from labels
    → (ss : List Step) (to : ℕ) → Walk roads from ss to → Reaches labels to (total hop ss)
walk_from_start hop roads from labels v ss to w =
    reaches-weaken labels to (plus hop start_label ss) (total hop ss)
    (walk_bounded hop roads from labels v ss from to start_label v.start w) (omega arith, λ e. omega arith)

some-inj : (a b : Label) → Some a ≡ Some b → a ≡ b
some-inj a b e = cc

pub valid_is_least : ValidIsLeast
valid_is_least hop roads from labels v = (
  λ to ss w e. record {
    walked = (ss, w, refl);
    least = λ ts u.
        let r : Reaches labels to (total hop ts) = walk_from_start hop roads from labels v ts to u in
        let same : r.0 ≡ total hop ss = some-inj r.0 (total hop ss) (sym r.1 ∙ e) in
        let P : Label → Type 0 = λ k. AtMost k (total hop ts) in
        subst P same r.2;
  },
  λ to e ss w.
      let r : Reaches labels to (total hop ss) = walk_from_start hop roads from labels v ss to w in
      let bad : Some r.0 ≡ None = sym r.1 ∙ e in
      cc,
)

-- The last steps lead back along the route.
use Rattle.std.proofs.Common.{◌≡◌, ℕ, ◌<◌, inl, inr, List, ◌∷◌, ◌++◌, length, get_or, Option, None, Some, refl}
use Rattle.std.proofs.Common.{sym, ◌∙◌, ap, subst, arith}
use Rattle.std.specs.Prelude.{IsSome}
use Rattle.std.proofs.lemmas.List.{get_or_default}
use Rattle.std.proofs.lemmas.Bool.{false≢true}
use Rattle.mud_roads.specs.declared.label.Label.{Label}
use Rattle.mud_roads.specs.declared.label.Step.{Step}
use Rattle.mud_roads.specs.Walks.{Roads, after, Least, EndsLeast, RouteBack}
use Rattle.mud_roads.proofs.Routes.{route-goes-on, least-one}
use Rattle.mud_guide.specs.declared.arrivals.Arrival.{Arrival}
use Rattle.mud_guide.specs.inner.Arrivals.{Ends, IsLast, Labelled}

-- the exits of a label
abbrev pub exits_at : Option Label → ℕ
exits_at None = 0
exits_at (Some l) = l.exits

module _ (roads : Roads) (from : ℕ) (labels : ℕ → Option Label) (least : Labelled roads from labels) where
  ends-least : (to by : ℕ) (s : Step) → Ends roads labels to by s → EndsLeast 1 roads from to by s
  ends-least to by s d =
      let P : ℕ → Option Label → Type 0 = λ r o. Least 1 roads from r o in
      record {
        step = d.step;
        leads = d.leads;
        least =
            (d.before, subst (P by) d.comes (least by), subst (P to) d.is (least to));
      }

  least-ends : (to by : ℕ) (s : Step) → EndsLeast 1 roads from to by s → Ends roads labels to by s
  least-ends to by s d = record {
    step = d.step;
    leads = d.leads;
    before = d.least.0;
    comes = least-one 1 roads from by (labels by) d.least.0 (least by) d.least.1;
    is = least-one 1 roads from to (labels to) (after 1 d.least.0 s) (least to) d.least.2;
  }

  -- the last step continues the route
  pub back-step : (to at : ℕ) (a : Arrival) → IsLast roads labels at (Some a) → (front rest : List Step)
      → ((more : List Step) → RouteBack 1 roads from at more → RouteBack 1 roads from to (front ++ more))
      → RouteBack 1 roads from a.by rest → RouteBack 1 roads from to (front ++ a.step ∷ rest)
  back-step to at a last front rest goes back =
      goes (a.step ∷ rest) (
        a.by,
        ends-least at a.by a.step last.0,
        (λ by s d. last.1 by s (least-ends at by s d)),
        back,
      )

  -- without a last step the route begins
  pub back-none : (at : ℕ) (l : Label) → labels at ≡ Some l → IsLast roads labels at None → from ≡ at
  back-none at l is none =
      let P : Option Label → Type 0 = λ o. Least 1 roads from at o in
      elim (route-goes-on roads from (λ room. (labels room, least room)) at l (subst P is (least at))) [
        | inl same ↦ same
        | inr more ↦ absurd (none more.by more.step (least-ends at more.by more.step more.ends))
      ]

  -- each step back has one exit less
  pub back-less : (at : ℕ) (a : Arrival) → IsLast roads labels at (Some a)
      → exits_at (labels a.by) < exits_at (labels at)
  back-less at a last =
      let d = last.0 in
      omega (arith, ap exits_at d.comes, ap exits_at d.is)

pub read-at : {X : Type 0} (xs : List X) (i : ℕ) (x d : X) → i < length xs → x ≡ get_or xs i x → get_or xs i d ≡ x
read-at xs i x d h e = get_or_default xs i d x h ∙ sym e

pub reached-at : (o : Option Label) → IsSome o → (k : Label) × (o ≡ Some k)
reached-at None h = absurd (false≢true h)
reached-at (Some k) h = (k, refl)

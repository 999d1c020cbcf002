-- A route is a least walk.
use Rattle.std.proofs.Common.{◌≡◌, ℕ, List, [], ◌∷◌, ◌++◌, reverse, Option, Some, refl, sym, ◌∙◌, ap, subst}
use Rattle.std.proofs.Common.{arith}
use Rattle.std.proofs.lemmas.Grind.{reverse_onto}
use Rattle.std.proofs.lemmas.List.{reverse-reverse}
use Rattle.mud_roads.specs.declared.label.Label.{Label}
use Rattle.mud_roads.specs.declared.label.Step.{Step}
use Rattle.mud_roads.specs.Walks.{Roads, Walk, total, after, IsLeast, RouteBack, IsRoute}
use Rattle.mud_roads.proofs.Routes.{walk-snoc, total-snoc, least-one}
use Rattle.mud_guide.proofs.Lowest.{some-inj}
use Rattle.mud_guide.specs.inner.Arrivals.{Labelled}
use Rattle.mud_guide.specs.Ways.{cost_of}
use Rattle.mud_guide.specs.Laws.{RouteIsLeast}

back-least : (roads : Roads) (from to : ℕ) (back : List Step) → RouteBack 1 roads from to back
    → Walk roads from (reverse back) to × IsLeast 1 roads from to (total 1 (reverse back))
back-least roads from to [] e = (e, record { walked = ([], e, refl); least = λ ss w. (omega arith, λ h. omega arith) })
back-least roads from to (s ∷ ss) (by, d, low, rest) =
    let before = back-least roads from by ss rest in
    let P : ℕ → Type 0 = λ r. Walk roads from (reverse ss ++ s ∷ []) r in
    let walk : Walk roads from (reverse ss ++ s ∷ []) to =
    subst P d.leads (walk-snoc roads (reverse ss) from by s before.0 d.step) in
    let one : total 1 (reverse ss) ≡ d.least.0 = some-inj (total 1 (reverse ss)) d.least.0
    (least-one 1 roads from by (Some (total 1 (reverse ss))) d.least.0 before.1 d.least.1) in
    let Q : Label → Type 0 = λ l. IsLeast 1 roads from to l in
    let least : IsLeast 1 roads from to (total 1 (reverse ss ++ s ∷ [])) =
    subst Q (sym (total-snoc 1 (reverse ss) s ∙ ap (λ (l : Label). after 1 l s) one)) d.least.2 in
    let W : List Step → Type 0 = λ xs. Walk roads from xs to × IsLeast 1 roads from to (total 1 xs) in
    subst W (sym (reverse_onto ss s [])) (walk, least)

pub route_is_least : RouteIsLeast
route_is_least roads from to ss r =
    let W : List Step → Type 0 = λ xs. Walk roads from xs to × IsLeast 1 roads from to (total 1 xs) in
    subst W (reverse-reverse ss) (back-least roads from to (reverse ss) r)

-- the cost of the route is that of its end's label
pub way-cost : (roads : Roads) (from to : ℕ) (labels : ℕ → Option Label) → Labelled roads from labels
    → (l : Label) → labels to ≡ Some l
    → (ss : List Step) → IsRoute 1 roads from to ss → l.cost ≡ cost_of ss
way-cost roads from to labels least l is ss r =
    let same : l ≡ total 1 ss = some-inj l (total 1 ss)
    (sym is ∙ least-one 1 roads from to (labels to) (total 1 ss) (least to)
    (route_is_least roads from to ss r).1) in
    ap (λ (x : Label). x.cost) same

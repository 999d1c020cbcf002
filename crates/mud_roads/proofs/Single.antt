-- A room has one canonical route, and a party has one meeting room.
use Rattle.std.proofs.Common.{◌≡◌, ℕ, ◌+◌, ◌<◌, ◌≤◌, ◌⊎◌, inl, inr, List, [], ◌∷◌, Some, refl, sym, ◌∙◌, ap, subst}
use Rattle.std.proofs.Common.{arith}
use Rattle.std.specs.Prelude.{Contains, reverse}
use Rattle.std.proofs.lemmas.List.{reverse-reverse}
use Rattle.mud_world.specs.declared.record.Passage.{Passage}
use Rattle.mud_world.specs.State.{State, passage_of}
use Rattle.mud_world.specs.Sound.{IsSound}
use Rattle.mud_roads.specs.declared.label.Step.{Step}
use Rattle.mud_roads.specs.Walks.{Roads, EndsLeast, RouteBack}
use Rattle.mud_roads.specs.Passable.{roads_of}
use Rattle.mud_roads.specs.Laws.{RouteIsOne, MeetingIsOne}
use Rattle.mud_roads.proofs.Roads.{road-at}

some-passage : (a b : Passage) → Some a ≡ Some b → a ≡ b
some-passage a b e = cc

-- steps of one exit are equal, and leave one room
pub record AreOne (by by' : ℕ) (s s' : Step) : Type 0 where
  pub room : by ≡ by'
  pub step : s ≡ s'

one-step : (w : State) → IsSound w → (p by by' : ℕ) (s s' : Step) → Contains (roads_of w p by) s
    → Contains (roads_of w p by') s' → s.exit ≡ s'.exit → AreOne by by' s s'
one-step w sound p by by' s s' c c' e =
    let one = (road-at w sound p by s c).0 in
    let two = (road-at w sound p by' s' c').0 in
    let first : Passage = record { source = by; destination = s.to; cost = s.cost } in
    let second : Passage = record { source = by'; destination = s'.to; cost = s'.cost } in
    let same : first ≡ second = some-passage first second (sym one ∙ ap (passage_of w) e ∙ two) in
    let make : ℕ → Passage → Step = λ x a. record { exit = x; to = a.destination; cost = a.cost } in
    record {
      room = ap (λ (a : Passage). a.source) same;
      step = ap (λ x. make x first) e ∙ ap (make s'.exit) same;
    }

-- no least walk with an exit leads to the start
no-way-round : (roads : Roads) (from to by : ℕ) (s : Step) → from ≡ to → EndsLeast 1 roads from to by s → ⊥
no-way-round roads from to by s same ends =
    let l = ends.least.0 in
    let bound = ends.least.2.least [] same in
    let cost : l.cost + s.cost ≡ 0 = omega (arith, bound.0) in
    let fewer = bound.1 cost in
    omega (arith, fewer)

one-back : (w : State) → IsSound w → (p from to : ℕ) (ss ts : List Step) → RouteBack 1 (roads_of w p) from to ss
    → RouteBack 1 (roads_of w p) from to ts → ss ≡ ts
one-back w sound p from to [] [] r q = refl
one-back w sound p from to [] (t ∷ ts) r q = absurd (no-way-round (roads_of w p) from to q.0 t r q.1)
one-back w sound p from to (s ∷ ss) [] r q = absurd (no-way-round (roads_of w p) from to r.0 s q r.1)
one-back w sound p from to (s ∷ ss) (t ∷ ts) r q =
    let low : s.exit ≤ t.exit = r.2 q.0 t q.1 in
    let high : t.exit ≤ s.exit = q.2 r.0 s r.1 in
    let exits : s.exit ≡ t.exit = omega (arith, low, high) in
    let one = one-step w sound p r.0 q.0 s t r.1.step q.1.step exits in
    let rest : RouteBack 1 (roads_of w p) from q.0 ss =
    subst (λ (b : ℕ). RouteBack 1 (roads_of w p) from b ss) one.room r.3 in
    ap (λ (x : Step). x ∷ ss) one.step ∙ ap (λ (l : List Step). t ∷ l) (one-back w sound p from q.0 ss ts rest q.3)

pub route_is_one : RouteIsOne
route_is_one w sound p from to ss ts r q =
    sym (reverse-reverse ss)
    ∙ ap reverse (one-back w sound p from to (reverse ss) (reverse ts) r q) ∙ reverse-reverse ts

pub meeting_is_one : MeetingIsOne
meeting_is_one hop party r c r' c' one two = go (one.best r' c' two.gathers) (two.best r c one.gathers)
  where
    go : (c < c') ⊎ ((c ≡ c') × (r ≤ r')) → (c' < c) ⊎ ((c' ≡ c) × (r' ≤ r)) → (r ≡ r') × (c ≡ c')
    go (inl h) (inl k) = let bad : ⊥ = omega arith in absurd bad
    go (inl h) (inr k) = let bad : ⊥ = omega (arith, k.0) in absurd bad
    go (inr h) (inl k) = let bad : ⊥ = omega (arith, h.0) in absurd bad
    go (inr h) (inr k) = (omega (arith, h.1, k.1), h.0)

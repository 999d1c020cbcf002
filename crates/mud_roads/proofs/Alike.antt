-- One of the walks with the least cost has the fewest exits: the roads of each room are a list, so the walks with a
-- given number of exits are finite in number.
use Rattle.std.proofs.Common.{◌≡◌, ◌≢◌, ℕ, zero, suc, ◌+◌, ◌<◌, ◌≤◌, ◌⊎◌, inl, inr, List, [], ◌∷◌, length, refl, sym}
use Rattle.std.proofs.Common.{◌∙◌, ap, subst, arith}
use Rattle.std.specs.Prelude.{sum_by, Contains}
use Rattle.std.proofs.lemmas.Bool.{cases_eq, cases_lt}
use Rattle.std.proofs.lemmas.List.Sums.{sum_by-cons}
use Rattle.mud_roads.specs.declared.label.Label.{Label}
use Rattle.mud_roads.specs.declared.label.Step.{Step}
use Rattle.mud_roads.specs.Walks.{Roads, Walk, total, IsLeast, Goer, HasLeast, Gathers}
use Rattle.mud_roads.specs.Laws.{LeastIsAlike, MeetingIsAlike}

-- it holds or it does not
abbrev Decided : Type 0 → Type 0
Decided P = P ⊎ (P → ⊥)

-- ---- the least number
abbrev IsFirst : (ℕ → Type 0) → ℕ → Type 0
IsFirst P m = P m × ((j : ℕ) → j < m → P j → ⊥)

first : (P : ℕ → Type 0) → ((n : ℕ) → Decided (P n)) → (n : ℕ) → ((m : ℕ) × IsFirst P m) ⊎ ((j : ℕ) → j < n → P j → ⊥)
first P decide zero = inr (λ j h p. omega (arith, h))
first P decide (suc n) =
    elim (first P decide n) [
      | inl found ↦ inl found
      | inr none ↦
          elim (decide n) [
            | inl is ↦ inl (n, (is, none))
            | inr not ↦ inr (λ j h p. elim (cases_eq j n) [
              | inl same ↦ not (subst P same p)
              | inr other ↦ none j (omega (arith, h, other)) p
            ])
          ]
    ]

-- ---- a list of steps
abbrev HasOne : (Step → Type 0) → List Step → Type 0
HasOne P xs = (s : Step) × Contains xs s × P s

behind : (x : Step) (xs : List Step) (s : Step) → Contains xs s → Contains (x ∷ xs) s
behind x xs s (k, h, e) = (suc k, omega (arith, h), e)

front-or : (x : Step) (xs : List Step) (s : Step) → Contains (x ∷ xs) s → (x ≡ s) ⊎ Contains xs s
front-or x xs s (zero, h, e) = inl e
front-or x xs s (suc k, h, e) = inr (k, omega (arith, h), e)

one-of : (P : Step → Type 0) → ((s : Step) → Decided (P s)) → (xs : List Step) → Decided (HasOne P xs)
one-of P decide [] = inr (λ (s, c, p). let (k, h, e) = c in omega (arith, h))
one-of P decide (x ∷ xs) =
    elim (decide x) [
      | inl is ↦ inl (x, (0, omega arith, refl), is)
      | inr not ↦
          elim (one-of P decide xs) [
            | inl (s, c, p) ↦ inl (s, behind x xs s c, p)
            | inr none ↦ inr (λ (s, c, p). elim (front-or x xs s c) [
              | inl same ↦ not (subst P (sym same) p)
              | inr more ↦ none (s, more, p)
            ])
          ]
    ]

-- ---- a walk of n exits that costs c where k was spent before
abbrev costs : List Step → ℕ
costs ss = sum_by (λ s. s.cost) ss

abbrev HasWalk : Roads → (to c n from k : ℕ) → Type 0
HasWalk roads to c n from k = (ss : List Step) × Walk roads from ss to × (length ss ≡ n) × (k + costs ss ≡ c)

decide-walk : (roads : Roads) (to c n from k : ℕ) → Decided (HasWalk roads to c n from k)
decide-walk roads to c zero from k =
    elim (cases_eq from to) [
      | inl here ↦
          elim (cases_eq k c) [
            | inl spent ↦ inl ([], here, refl, omega (arith, spent))
            | inr other ↦ inr (λ (ss, w, none, sum). no-cost ss none sum other)
          ]
      | inr away ↦ inr (λ (ss, w, none, sum). stays ss w none away)
    ]
  where
    no-cost : (ss : List Step) → length ss ≡ 0 → k + costs ss ≡ c → k ≢ c → ⊥
    no-cost [] none sum other = other (omega (arith, sum))
    no-cost (s ∷ ss) none sum other = omega (arith, none)

    stays : (ss : List Step) → Walk roads from ss to → length ss ≡ 0 → from ≢ to → ⊥
    stays [] w none away = away w
    stays (s ∷ ss) w none away = omega (arith, none)
decide-walk roads to c (suc n) from k =
    elim (one-of P (λ s. decide-walk roads to c n s.to (k + s.cost)) (roads from)) [
      | inl (s, here, (ss, w, long, sum)) ↦
          inl (s ∷ ss, (here, w), ap suc long, omega (arith, sum, sum_by-cons (λ (x : Step). x.cost) s ss))
      | inr none ↦ inr (λ (ss, w, long, sum). no-step ss w long sum none)
    ]
  where
    P : Step → Type 0
    P s = HasWalk roads to c n s.to (k + s.cost)

    no-step : (ss : List Step) → Walk roads from ss to → length ss ≡ suc n → k + costs ss ≡ c
        → (HasOne P (roads from) → ⊥) → ⊥
    no-step [] w long sum none = omega (arith, long)
    no-step (s ∷ ss) (here, w) long sum none =
        none (s, here, (ss, w, omega (arith, long), omega (arith, sum, sum_by-cons (λ (x : Step). x.cost) s ss)))

-- ---- labels
abbrev exits : ℕ → List Step → ℕ
exits hop ss = sum_by (λ s. hop) ss

-- more exits never count less
exits-rise : (hop : ℕ) (ss ts : List Step) → length ss ≤ length ts → exits hop ss ≤ exits hop ts
exits-rise hop [] ts h = omega arith
exits-rise hop (s ∷ ss) [] h = absurd (omega (arith, h))
exits-rise hop (s ∷ ss) (t ∷ ts) h =
    omega (
      arith,
      exits-rise hop ss ts (omega (arith, h)),
      sum_by-cons (λ (x : Step). hop) s ss,
      sum_by-cons (λ (x : Step). hop) t ts,
    )

pub least_is_alike : LeastIsAlike
least_is_alike hop hop' roads from to l least = go least.walked.0 least.walked.1 least.walked.2
  where
    -- the walk of least cost with the fewest exits
    make : (ss : List Step) → l.cost ≡ costs ss → (m : ℕ) → IsFirst (λ n. HasWalk roads to (costs ss) n from 0) m
        → (l' : Label) × IsLeast hop' roads from to l' × (l'.cost ≡ l.cost)
    make ss cost m ((ts, w, long, sum), none) = (
      total hop' ts,
      record {
        walked = (ts, w, refl);
        least = λ us v. (
          omega (arith, cost, sum, (least.least us v).0),
          λ same. elim (cases_lt (length us) m) [
            | inl fewer ↦ absurd (none (length us) fewer (us, v, refl, omega (arith, sum, same)))
            | inr more ↦ exits-rise hop' ts us (omega (arith, more, long))
          ],
        );
      },
      omega (arith, cost, sum),
    )

    go : (ss : List Step) → Walk roads from ss to → total hop ss ≡ l
        → (l' : Label) × IsLeast hop' roads from to l' × (l'.cost ≡ l.cost)
    go ss w is =
        let cost : l.cost ≡ costs ss = sym (ap (λ (x : Label). x.cost) is) in
        elim (first (λ n. HasWalk roads to (costs ss) n from 0)
        (λ n. decide-walk roads to (costs ss) n from 0) (suc (length ss))) [
          | inl (m, fewest) ↦ make ss cost m fewest
          | inr none ↦ absurd (none (length ss) (omega arith) (ss, w, refl, omega arith))
        ]

-- ---- meetings
gathers_alike : (hop hop' : ℕ) (party : List Goer) (room cost : ℕ) → Gathers (HasLeast hop) party room cost
    → Gathers (HasLeast hop') party room cost
gathers_alike hop hop' party room cost g = record {
  all = λ k d h.
      let here = g.all k d h in
      let there = least_is_alike hop hop' _ _ room here.0 here.1 in
      (there.0, there.1, omega (arith, there.2, here.2));
  one =
      let own = g.one in
      let there = least_is_alike hop hop' own.1.0 own.1.1 room own.4.0 own.4.1 in
      (own.0, own.1, own.2, own.3, (there.0, there.1, there.2 ∙ own.4.2));
}

pub meeting_is_alike : MeetingIsAlike
meeting_is_alike hop hop' party = (
  λ room cost is. record {
    gathers = gathers_alike hop hop' party room cost is.gathers;
    best = λ r c g. is.best r c (gathers_alike hop' hop party r c g);
  },
  λ none r c g. none r c (gathers_alike hop' hop party r c g),
)

-- The last step of a least walk continues a least walk.
use Rattle.std.proofs.Common.{◌≡◌, ℕ, ◌+◌, ◌⊎◌, inl, inr, List, [], ◌∷◌, ◌++◌, Option, None, Some, refl, sym, ◌∙◌, ap}
use Rattle.std.proofs.Common.{subst, arith}
use Rattle.std.specs.Prelude.{Contains}
use Rattle.std.proofs.lemmas.List.Sums.{sum_by_push}
use Rattle.mud_roads.specs.declared.label.Label.{Label}
use Rattle.mud_roads.specs.declared.label.Step.{Step}
use Rattle.mud_roads.specs.Walks.{Roads, Walk, AtMost, total, after, IsLeast, Least, EndsLeast}
use Rattle.mud_roads.specs.Labels.{start_label}
use Rattle.mud_roads.specs.Laws.{LeastIsValid, IsOne}

pub label-ext : (a b : Label) → a.cost ≡ b.cost → a.exits ≡ b.exits → a ≡ b
label-ext a b p q =
    let one : ℕ → Label = λ c. record { cost = c; exits = a.exits } in
    let two : ℕ → Label = λ e. record { cost = b.cost; exits = e } in
    ap one p ∙ ap two q

pub at_most-both : (a b : Label) → AtMost a b → AtMost b a → a ≡ b
at_most-both a b p q =
    let same : a.cost ≡ b.cost = omega arith in
    label-ext a b same (let one = p.1 same in let two = q.1 (sym same) in omega arith)

-- a walk with one more step
pub walk-snoc : (roads : Roads) (ss : List Step) (from by : ℕ) (s : Step) → Walk roads from ss by
    → Contains (roads by) s → Walk roads from (ss ++ s ∷ []) s.to
walk-snoc roads [] from by s w c =
    let P : ℕ → Type 0 = λ r. Contains (roads r) s in
    (subst P (sym w) c, refl)
walk-snoc roads (x ∷ ss) from by s (d, w) c = (d, walk-snoc roads ss x.to by s w c)

-- a walk is empty, or has a last step
pub record Ended (roads : Roads) (from to : ℕ) (ss : List Step) : Type 0 where
  pub by : ℕ
  pub front : List Step
  pub last : Step
  pub is : ss ≡ front ++ last ∷ []
  pub walk : Walk roads from front by
  pub step : Contains (roads by) last
  pub leads : last.to ≡ to

pub walk-ends : (roads : Roads) (s : Step) (ss : List Step) (from to : ℕ) → Walk roads from (s ∷ ss) to
    → Ended roads from to (s ∷ ss)
walk-ends roads s [] from to (c, e) =
    record { by = from; front = []; last = s; is = refl; walk = refl; step = c; leads = e }
walk-ends roads s (t ∷ ss) from to (c, w) =
    let rest = walk-ends roads t ss s.to to w in
    record {
      by = rest.by;
      front = s ∷ rest.front;
      last = rest.last;
      is = ap (λ xs. s ∷ xs) rest.is;
      walk =
          (c, rest.walk);
      step = rest.step;
      leads = rest.leads;
    }

pub total-snoc : (hop : ℕ) (ss : List Step) (s : Step) → total hop (ss ++ s ∷ []) ≡ after hop (total hop ss) s
total-snoc hop ss s =
    label-ext (total hop (ss ++ s ∷ [])) (after hop (total hop ss) s) (sum_by_push (λ (x : Step). x.cost) ss s)
    (sum_by_push (λ (x : Step). hop) ss s)

-- before the last step, the least label is one step less
pub least-back : (hop : ℕ) (roads : Roads) (from to by : ℕ) (l k : Label) (ss : List Step) (s : Step)
    → IsLeast hop roads from to l → IsLeast hop roads from by k
    → Walk roads from ss by → Contains (roads by) s → s.to ≡ to → total hop (ss ++ s ∷ []) ≡ l → after hop k s ≡ l
least-back hop roads from to by l k ss s to_least by_least w c leads is =
    let lower : AtMost k (total hop ss) = by_least.least ss w in
    let other = by_least.walked in
    let there : Walk roads from (other.0 ++ s ∷ []) s.to = walk-snoc roads other.0 from by s other.1 c in
    let P : ℕ → Type 0 = λ r. Walk roads from (other.0 ++ s ∷ []) r in
    let upper : AtMost l (total hop (other.0 ++ s ∷ [])) = to_least.least (other.0 ++ s ∷ []) (subst P leads there) in
    let Q : Label → Type 0 = λ x. AtMost l x in
    let above : AtMost l (after hop k s) =
    subst Q (total-snoc hop other.0 s ∙ ap (λ (x : Label). after hop x s) other.2) upper in
    let whole : after hop (total hop ss) s ≡ l = sym (total-snoc hop ss s) ∙ is in
    let cost : (total hop ss).cost + s.cost ≡ l.cost = ap (λ (x : Label). x.cost) whole in
    let exits : (total hop ss).exits + hop ≡ l.exits = ap (λ (x : Label). x.exits) whole in
    join l k (total hop ss) s lower above cost exits
  where
    join : (l k t : Label) (s : Step) → AtMost k t → AtMost l (after hop k s) → t.cost + s.cost ≡ l.cost
        → t.exits + hop ≡ l.exits → after hop k s ≡ l
    join l k t s p q e f =
        let same : k.cost ≡ t.cost = omega (arith, p.0, q.0) in
        let costs : l.cost ≡ k.cost + s.cost = omega arith in
        label-ext (after hop k s) l (omega arith) (omega (arith, p.1 same, q.1 costs))

-- a least walk followed backwards
pub record GoesBack (roads : Roads) (from to : ℕ) (l : Label) : Type 0 where
  pub by : ℕ
  pub step : Step
  pub ends : EndsLeast 1 roads from to by step
  pub label : Label
  pub least : IsLeast 1 roads from by label
  pub fewer : label.exits + 1 ≡ l.exits

-- a least walk to another room ends with such a step; a walk without exits is at the start
pub route-goes-on : (roads : Roads) (from : ℕ) → ((room : ℕ) → (o : Option Label) × Least 1 roads from room o)
    → (to : ℕ) (l : Label) → IsLeast 1 roads from to l → (from ≡ to) ⊎ GoesBack roads from to l
route-goes-on roads from known to l least = go least.walked.0 least.walked.1 least.walked.2
  where
    back : (by : ℕ) (ss : List Step) → Walk roads from ss by → (o : Option Label) → Least 1 roads from by o
        → (k : Label) × IsLeast 1 roads from by k
    back by ss w None none = absurd (none ss w)
    back by ss w (Some k) is = (k, is)

    go : (ss : List Step) → Walk roads from ss to → total 1 ss ≡ l → (from ≡ to) ⊎ GoesBack roads from to l
    go [] w e = inl w
    go (x ∷ xs) w e =
        let end = walk-ends roads x xs from to w in
        let k = back end.by end.front end.walk (known end.by).0 (known end.by).1 in
        let is : total 1 (end.front ++ end.last ∷ []) ≡ l = ap (total 1) (sym end.is) ∙ e in
        let step : after 1 k.0 end.last ≡ l =
        least-back 1 roads from to end.by l k.0 end.front end.last least k.1 end.walk end.step end.leads is in
        let P : Label → Type 0 = λ y. IsLeast 1 roads from to y in
        inr (record {
          by = end.by;
          step = end.last;
          ends = record { step = end.step; leads = end.leads; least = (k.0, k.1, subst P (sym step) least) };
          label = k.0;
          least = k.1;
          fewer = ap (λ (y : Label). y.exits) step;
        })

-- ---- laws

pub least_is_one : (hop : ℕ) (roads : Roads) (from to : ℕ) → IsOne (Least hop roads from to)
least_is_one hop roads from to None None p q = refl
least_is_one hop roads from to None (Some b) p q = absurd (p q.walked.0 q.walked.1)
least_is_one hop roads from to (Some a) None p q = absurd (q p.walked.0 p.walked.1)
least_is_one hop roads from to (Some a) (Some b) p q =
    let P : Label → Type 0 = λ x. AtMost a x in
    let Q : Label → Type 0 = λ x. AtMost b x in
    ap Some (at_most-both a b (subst P q.walked.2 (p.least q.walked.0 q.walked.1))
    (subst Q p.walked.2 (q.least p.walked.0 p.walked.1)))

-- a room labelled with the least label has that label
pub least-one : (hop : ℕ) (roads : Roads) (from to : ℕ) (o : Option Label) (l : Label) → Least hop roads from to o
    → IsLeast hop roads from to l → o ≡ Some l
least-one hop roads from to o l p q = least_is_one hop roads from to o (Some l) p q

pub least_is_valid : LeastIsValid
least_is_valid hop roads from labels known = record {
  start = start (labels from) (known from);
  steps = λ room l s e c. go room l s c
      (subst (λ (o : Option Label). Least hop roads from room o) e (known room)) (labels s.to) (known s.to);
}
  where
    empty : AtMost start_label (total hop [])
    empty = (omega arith, λ e. omega arith)

    zero_below : (l : Label) → AtMost l (total hop []) → l ≡ start_label
    zero_below l p =
        label-ext l start_label (omega (arith, p.0)) (let z : l.cost ≡ 0 = omega (arith, p.0) in omega (arith, p.1 z))

    start : (o : Option Label) → Least hop roads from from o → o ≡ Some start_label
    start None none = absurd (none [] refl)
    start (Some l) is = ap Some (zero_below l (is.least [] refl))

    go : (room : ℕ) (l : Label) (s : Step) → Contains (roads room) s → IsLeast hop roads from room l
        → (o : Option Label) → Least hop roads from s.to o → (k : Label) × (o ≡ Some k) × AtMost k (after hop l s)
    go room l s c is None none =
        absurd (none (is.walked.0 ++ s ∷ []) (walk-snoc roads is.walked.0 from room s is.walked.1 c))
    go room l s c is (Some k) to =
        let P : Label → Type 0 = λ x. AtMost k x in (
          k,
          refl,
          subst P (total-snoc hop is.walked.0 s ∙ ap (λ (x : Label). after hop x s) is.walked.2)
              (to.least (is.walked.0 ++ s ∷ []) (walk-snoc roads is.walked.0 from room s is.walked.1 c)),
        )

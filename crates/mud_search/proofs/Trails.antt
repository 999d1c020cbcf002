-- Trails: their bounds, and their preservation.
use Rattle.std.proofs.Common.{◌≡◌, ℕ, suc, ◌*◌, ◌<◌, ◌≤◌, ◌⊎◌, inl, inr, Bool, true, false, List, [], ◌∷◌, ◌++◌, length}
use Rattle.std.proofs.Common.{Option, Some, refl, ap, subst, arith}
use Rattle.std.specs.Prelude.{sum_by, reverse, ◌==◌, ◌||◌}
use Rattle.std.specs.List.{IsDistinct, AllByRecursion as ByRecursion}
use Rattle.std.proofs.lemmas.List.{reverse-append}
use Rattle.std.proofs.lemmas.List.Sorted.{sum_by-IsPermutation, IsPermutation-reverse}
use Rattle.std.proofs.Math.Dec.{eqb}
use Rattle.std.proofs.lemmas.List.Sums.{sum_by-cons}
use Rattle.std.proofs.lemmas.Map.Steps.{length-le_from_distinct_below}
use Rattle.std.proofs.lemmas.Bool.{cases_eq}
use Rattle.std.proofs.lemmas.Bool.Decides.{nat_tests}
use Rattle.mud_world.specs.declared.limits.TheConstants.{MOST_COST}
use Rattle.mud_roads.specs.declared.label.Label.{Label}
use Rattle.mud_roads.specs.declared.label.Step.{Step}
use Rattle.mud_roads.specs.Walks.{Roads, Walk, AtMost, total}
use Rattle.mud_roads.specs.Labels.{start_label, Reaches}
use Rattle.mud_roads.proofs.Bounds.{reaches-weaken}
use Rattle.mud_roads.proofs.Routes.{walk-snoc, label-ext}
use Rattle.mud_search.specs.inner.Trails.{rooms_of_walk, is_in, Trail}
use Rattle.mud_search.proofs.Inside.{AreWithin}

-- a bound under the old labels is one under the new labels
abbrev pub Falls : (ℕ → Option Label) → (ℕ → Option Label) → Type 0
Falls earlier later = (room : ℕ) (l : Label) → Reaches earlier room l → Reaches later room l

pub trail-falls : (roads : Roads) (before then : ℕ → Option Label) (from : ℕ) → Falls before then
    → (ss : List Step) (to : ℕ) → Trail roads before from ss to → Trail roads then from ss to
trail-falls roads before then from f [] to t = t
trail-falls roads before then from f (s ∷ ss) to (e, new, r, (by, c, t)) =
    (e, new, f s.to (total 1 (s ∷ ss)) r, (by, c, trail-falls roads before then from f ss by t))

total-longer : (s : Step) (ss : List Step) → AtMost (total 1 ss) (total 1 (s ∷ ss))
total-longer s ss =
    (omega (arith, sum_by-cons (λ (x : Step). x.cost) s ss), λ e. omega (arith, sum_by-cons (λ (x : Step). 1) s ss))

-- each step counts one
pub exits-length : (ss : List Step) → (total 1 ss).exits ≡ length ss
exits-length [] = refl
exits-length (s ∷ ss) = omega (arith, sum_by-cons (λ (x : Step). 1) s ss, exits-length ss)

or_cases : (a b : Bool) → (a || b) ≡ true → (a ≡ true) ⊎ (b ≡ true)
or_cases true b h = inl refl
or_cases false b h = inr h

or-none : (a b : Bool) → (a || b) ≡ false → (a ≡ false) × (b ≡ false)
or-none true b h = absurd (cc)
or-none false b h = (refl, h)

-- each room on a trail has a label that is not greater than the trail's
pub trail-reaches : (roads : Roads) (labels : ℕ → Option Label) (from : ℕ) → labels from ≡ Some start_label
    → (ss : List Step) (to : ℕ) → Trail roads labels from ss to → (q : ℕ) → is_in q (rooms_of_walk from ss) ≡ true
    → Reaches labels q (total 1 ss)
trail-reaches roads labels from start [] to t q is =
    let same : from ≡ q = grind (arith, nat_tests) in
    let P : ℕ → Type 0 = λ r. Reaches labels r (total 1 []) in
    subst P same (start_label, start, (omega arith, λ e. omega arith))
trail-reaches roads labels from start (s ∷ ss) to (e, new, r, (by, c, t)) q is =
    elim (or_cases (q == s.to) (is_in q (rooms_of_walk from ss)) is) [
      | inl here ↦
          let same : s.to ≡ q = grind (arith, nat_tests) in
          let P : ℕ → Type 0 = λ k. Reaches labels k (total 1 (s ∷ ss)) in
          subst P same r
      | inr earlier ↦
          reaches-weaken labels q (total 1 ss) (total 1 (s ∷ ss))
          (trail-reaches roads labels from start ss by t q earlier) (total-longer s ss)
    ]

apart-from_none : (q : ℕ) (rs : List ℕ) → is_in q rs ≡ false → ByRecursion (λ y. eqb q y ≡ false) rs
apart-from_none q [] h = tt
apart-from_none q (r ∷ rs) h =
    let parts : (eqb q r ≡ false) × (is_in q rs ≡ false) = or-none (eqb q r) (is_in q rs) h in
    (parts.0, apart-from_none q rs parts.1)

-- the rooms of a trail differ
pub trail-distinct : (roads : Roads) (labels : ℕ → Option Label) (from : ℕ)
    → (ss : List Step) (to : ℕ) → Trail roads labels from ss to → IsDistinct eqb (rooms_of_walk from ss)
unfolding IsDistinct
trail-distinct roads labels from [] to t = (tt, tt)
trail-distinct roads labels from (s ∷ ss) to (e, new, r, (by, c, t)) =
    (apart-from_none s.to (rooms_of_walk from ss) new, trail-distinct roads labels from ss by t)

length-visited : (from : ℕ) (ss : List Step) → length (rooms_of_walk from ss) ≡ suc (length ss)
length-visited from [] = refl
length-visited from (s ∷ ss) = ap suc (length-visited from ss)

pub trail-below : (roads : Roads) (labels : ℕ → Option Label) (from rooms : ℕ) → AreWithin roads rooms → from < rooms
    → (ss : List Step) (to : ℕ) → Trail roads labels from ss to → (q : ℕ) → is_in q (rooms_of_walk from ss) ≡ true
    → q < rooms
trail-below roads labels from rooms w f [] to t q is = let same : from ≡ q = grind (arith, nat_tests) in omega arith
trail-below roads labels from rooms w f (s ∷ ss) to (e, new, r, (by, c, t)) q is =
    elim (cases_eq q s.to) [
      | inl same ↦ omega (arith, (w by s c).0)
      | inr other ↦ trail-below roads labels from rooms w f ss by t q (grind (arith, nat_tests))
    ]

pub trail-cost : (roads : Roads) (labels : ℕ → Option Label) (from rooms : ℕ) → AreWithin roads rooms
    → (ss : List Step) (to : ℕ) → Trail roads labels from ss to → (total 1 ss).cost ≤ MOST_COST * length ss
trail-cost roads labels from rooms w [] to t = omega arith
trail-cost roads labels from rooms w (s ∷ ss) to (e, new, r, (by, c, t)) =
    omega (arith, sum_by-cons (λ (x : Step). x.cost) s ss, (w by s c).1, trail-cost roads labels from rooms w ss by t)

-- a trail read forwards is a walk
pub trail-walk : (roads : Roads) (labels : ℕ → Option Label) (from : ℕ)
    → (ss : List Step) (to : ℕ) → Trail roads labels from ss to → Walk roads from (reverse ss) to
trail-walk roads labels from [] to t = t
trail-walk roads labels from (s ∷ ss) to (e, new, r, (by, c, t)) =
    let w : Walk roads from (reverse ss ++ s ∷ []) s.to =
    walk-snoc roads (reverse ss) from by s (trail-walk roads labels from ss by t) c in
    let P : ℕ → Type 0 = λ k. Walk roads from (reverse (s ∷ ss)) k in
    subst P e (rw (← reverse-append (s ∷ []) ss) at w)

pub total-reverse : (ss : List Step) → total 1 (reverse ss) ≡ total 1 ss
total-reverse ss =
    let costs : sum_by (λ (s : Step). s.cost) (reverse ss) ≡ sum_by (λ (s : Step). s.cost) ss =
    sum_by-IsPermutation (λ (s : Step). s.cost) ss (reverse ss) (IsPermutation-reverse ss) in
    let exits : sum_by (λ (s : Step). 1) (reverse ss) ≡ sum_by (λ (s : Step). 1) ss =
    sum_by-IsPermutation (λ (s : Step). 1) ss (reverse ss) (IsPermutation-reverse ss) in
    label-ext (total 1 (reverse ss)) (total 1 ss) costs exits

-- a trail has fewer steps than there are rooms
pub trail-short : (roads : Roads) (labels : ℕ → Option Label) (from rooms : ℕ) → AreWithin roads rooms → from < rooms
    → (ss : List Step) (to : ℕ) → Trail roads labels from ss to → length ss < rooms
trail-short roads labels from rooms w f ss to t =
    omega (
      arith,
      length-visited from ss,
      length-le_from_distinct_below (rooms_of_walk from ss) rooms (trail-distinct roads labels from ss to t)
          (trail-below roads labels from rooms w f ss to t),
    )

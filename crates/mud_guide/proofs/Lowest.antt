-- The lowest exit that ends a least walk to a room.
use Rattle.std.proofs.Common.{◌≡◌, ◌≢◌, ℕ, zero, suc, ◌+◌, ◌<◌, ◌≤◌, inl, inr, true, false, List, [], ◌∷◌, length}
use Rattle.std.proofs.Common.{get_or, drop, Option, None, Some, refl, sym, ◌∙◌, ap, subst, arith}
use Rattle.std.specs.Prelude.{nat_eq, IsTrue, ◌↔◌, is_some}
use Rattle.std.specs.Option.{option_map}
use Rattle.std.specs.List.{list_any}
use Rattle.std.proofs.lemmas.Bool.{eqb-true, eq-eqb, or_cases, false≢true}
use Rattle.std.proofs.lemmas.Bool.Decides.{nat_tests}
use Rattle.std.proofs.lemmas.List.{drop_more, drop_all}
use Rattle.std.proofs.lemmas.List.Folds.{list_any_at}
use Rattle.mud_world.specs.declared.record.Passage.{Passage}
use Rattle.mud_world.specs.Numbers.{IsRisingFrom}
use Rattle.mud_world.specs.State.{State, passage_of, destination_of, arriving_of}
use Rattle.mud_world.specs.Sound.{IsSound}
use Rattle.mud_world.proofs.Listed.{arriving_law}
use Rattle.mud_roads.specs.declared.label.Label.{Label}
use Rattle.mud_roads.specs.declared.label.Step.{Step}
use Rattle.mud_roads.specs.Walks.{Roads, after}
use Rattle.mud_roads.specs.Passable.{roads_of, step_by, open_step}
use Rattle.mud_roads.proofs.Routes.{label-ext}
use Rattle.mud_roads.proofs.Roads.{road-at, road-to, opens-as, open-road, road-open}
use Rattle.mud_guide.specs.declared.arrivals.Arrival.{Arrival}
use Rattle.mud_guide.specs.inner.Arrivals.{Ends, IsLast, IsBy, ends}

pub some-inj : {X : Type 0} (a b : X) → Some a ≡ Some b → a ≡ b
some-inj a b e = cc

-- ---- the meaning of the labels
ends-is : (l : Label) (s : Step) (o : Option Label) → ends l s.cost o ≡ true → o ≡ Some (after 1 l s)
ends-is l s None e = absurd (cc)
ends-is l s (Some k) e =
    let cost : l.cost + s.cost ≡ k.cost = grind (arith, nat_tests) in
    let exits : l.exits + 1 ≡ k.exits = grind (arith, nat_tests) in
    ap Some (sym (label-ext (after 1 l s) k cost exits))

ends-not : (l : Label) (s : Step) (o : Option Label) → ends l s.cost o ≡ false → o ≢ Some (after 1 l s)
ends-not l s None e f = cc
ends-not l s (Some k) e f =
    let same : k ≡ after 1 l s = some-inj k (after 1 l s) f in
    let cost : k.cost ≡ l.cost + s.cost = ap (λ (x : Label). x.cost) same in
    let exits : k.exits ≡ l.exits + 1 = ap (λ (x : Label). x.exits) same in
    grind (arith, nat_tests)

-- ---- one exit
module _ (w : State) (sound : IsSound w) (p : ℕ) (labels : ℕ → Option Label) where
  abbrev ends_of : ℕ → ℕ → Step → Passage
  ends_of to by s = record { source = by; destination = to; cost = s.cost }

  -- the exit of a step that ends a least walk has these ends
  passage-ends : (to by : ℕ) (s : Step) → Ends (roads_of w p) labels to by s
      → passage_of w s.exit ≡ Some (ends_of to by s)
  passage-ends to by s d =
      (road-at w sound p by s d.step).0
      ∙ ap (λ (r : ℕ). Some (ends_of r by s)) d.leads

  ends-known : (to by x : ℕ) (s : Step) (a : Passage) → s.exit ≡ x → Ends (roads_of w p) labels to by s
      → passage_of w x ≡ Some a → ends_of to by s ≡ a
  ends-known to by x s a same d is =
      some-inj (ends_of to by s) a
      (sym (passage-ends to by s d) ∙ ap (passage_of w) same ∙ is)

  pub no-exit : (x : ℕ) → passage_of w x ≡ None → IsBy (roads_of w p) labels x None
  no-exit x none = λ to by s same d.
      let bad : None ≡ Some (ends_of to by s) =
      sym none ∙ ap (passage_of w) (sym same) ∙ passage-ends to by s d in cc

  pub no-label : (x : ℕ) (a : Passage) → passage_of w x ≡ Some a → labels a.source ≡ None
      → IsBy (roads_of w p) labels x None
  no-label x a is none = λ to by s same d.
      let one = ends-known to by x s a same d is in
      let bad : Some d.before ≡ None = sym d.comes ∙ ap (λ (q : Passage). labels q.source) one ∙ none in cc

  pub no-end : (x : ℕ) (a : Passage) (l : Label) → passage_of w x ≡ Some a → labels a.source ≡ Some l
      → ends l a.cost (labels a.destination) ≡ false → IsBy (roads_of w p) labels x None
  no-end x a l is comes out = λ to by s same d.
      let one = ends-known to by x s a same d is in
      let before : d.before ≡ l =
      some-inj d.before l (sym d.comes ∙ ap (λ (q : Passage). labels q.source) one ∙ comes) in
      ends-not d.before s (labels to)
      (ap (λ (k : Label). ends k s.cost (labels to)) before
      ∙ ap (λ (q : Passage). ends l q.cost (labels q.destination)) one ∙ out)
      d.is

  pub no-step : (x : ℕ) → open_step w p x ≡ None → IsBy (roads_of w p) labels x None
  no-step x none = λ to by s same d.
      let bad : None ≡ Some s =
      sym none ∙ ap (open_step w p) (sym same) ∙ road-open w p by s (road-at w sound p by s d.step) in cc

  pub one-step : (x : ℕ) (a : Passage) (l : Label) (s : Step) → passage_of w x ≡ Some a → labels a.source ≡ Some l
      → ends l a.cost (labels a.destination) ≡ true → open_step w p x ≡ Some s
      → IsBy (roads_of w p) labels x (Some (record { by = a.source; step = s }))
  one-step x a l s is comes ended opens =
      let o = opens-as w p x s opens in
      let one : o.passage ≡ a = some-inj o.passage a (sym o.is ∙ is) in
      let step : step_by x a ≡ s = ap (step_by x) (sym one) ∙ o.step in (
        ap (λ (t : Step). t.exit) (sym step),
        record {
          step = road-to w sound p a.source s
              (open-road w p a.source x s (ap (option_map (λ q. q.source)) is) opens);
          leads = refl;
          before = l;
          comes = comes;
          is = subst (λ (t : Step). labels t.to ≡ Some (after 1 l t)) step
              (ends-is l (step_by x a) (labels a.destination) ended);
        },
      )

-- ---- all exits
-- each exit that ends a least walk to the room is one of these
abbrev pub AreLeft : Roads → (ℕ → Option Label) → ℕ → List ℕ → Type 0
AreLeft roads labels to xs = (by : ℕ) (s : Step) → Ends roads labels to by s → IsTrue (list_any (nat_eq s.exit) xs)

-- the first of them does not end one
pub left-more : (roads : Roads) (labels : ℕ → Option Label) (to i : ℕ) (xs : List ℕ) → i < length xs
    → AreLeft roads labels to (drop i xs) → (o : Option Arrival) → is_some o ≡ false
    → IsBy roads labels (get_or xs i 0) o → AreLeft roads labels to (drop (i + 1) xs)
left-more roads labels to i xs h left (Some a) none is = absurd (false≢true (sym none))
left-more roads labels to i xs h left None none is = λ by s d.
    let among : IsTrue (list_any (nat_eq s.exit) (get_or xs i 0 ∷ drop (i + 1) xs)) =
    subst (λ (v : List ℕ). IsTrue (list_any (nat_eq s.exit) v)) (drop_more xs i 0 h) (left by s d) in
    elim (or_cases (nat_eq s.exit (get_or xs i 0)) (list_any (nat_eq s.exit) (drop (i + 1) xs)) among) [
      | inl here ↦ absurd (is to by s (eqb-true s.exit (get_or xs i 0) here) d)
      | inr rest ↦ rest
    ]

-- no exit is left
pub none-left : (roads : Roads) (labels : ℕ → Option Label) (to i : ℕ) (xs : List ℕ) → length xs ≤ i
    → AreLeft roads labels to (drop i xs) → IsLast roads labels to None
none-left roads labels to i xs h left = λ by s d.
    false≢true (subst (λ (v : List ℕ). IsTrue (list_any (nat_eq s.exit) v)) (drop_all i xs h) (left by s d))

rising-above : (low n : ℕ) (xs : List ℕ) → IsRisingFrom low xs → IsTrue (list_any (nat_eq n) xs) → low ≤ n
rising-above low n [] rises among = absurd (false≢true among)
rising-above low n (x ∷ xs) rises among =
    elim (or_cases (nat_eq n x) (list_any (nat_eq n) xs) among) [
      | inl here ↦ omega (arith, rises.0, eqb-true n x here)
      | inr rest ↦ omega (arith, rises.0, rising-above (x + 1) n xs rises.1 rest)
    ]

-- an element at a place or later is not less
rising-from : (low i n : ℕ) (xs : List ℕ) → IsRisingFrom low xs → i < length xs
    → IsTrue (list_any (nat_eq n) (drop i xs)) → get_or xs i 0 ≤ n
rising-from low i n [] rises h among = absurd (omega (arith, h))
rising-from low zero n (x ∷ xs) rises h among =
    elim (or_cases (nat_eq n x) (list_any (nat_eq n) xs) among) [
      | inl here ↦ omega (arith, eqb-true n x here)
      | inr rest ↦ omega (arith, rising-above (x + 1) n xs rises.1 rest)
    ]
rising-from low (suc i) n (x ∷ xs) rises h among = rising-from (x + 1) i n xs rises.1 (omega (arith, h)) among

module _ (w : State) (sound : IsSound w) (p : ℕ) (labels : ℕ → Option Label) (to : ℕ) (xs : List ℕ)
    (are : xs ≡ arriving_of w to) where
  law : ((n : ℕ) → IsTrue (list_any (nat_eq n) xs) ↔ (destination_of w n ≡ Some to)) × IsRisingFrom 0 xs
  law =
      subst (λ (v : List ℕ). ((n : ℕ) → IsTrue (list_any (nat_eq n) v) ↔ (destination_of w n ≡ Some to))
      × IsRisingFrom 0 v) (sym are) (arriving_law w sound to)

  pub all-left : AreLeft (roads_of w p) labels to xs
  all-left = λ by s d. (law.0 s.exit).1 (ap (option_map (λ q. q.destination)) (passage-ends w sound p labels to by s d))

  -- the exit at a place ends a least walk, and no earlier one did
  pub last-is : (i : ℕ) → i < length xs → AreLeft (roads_of w p) labels to (drop i xs) → (o : Option Arrival)
      → is_some o ≡ true → IsBy (roads_of w p) labels (get_or xs i 0) o → IsLast (roads_of w p) labels to o
  last-is i h left None some is = absurd (false≢true some)
  last-is i h left (Some a) some is =
      let x = get_or xs i 0 in
      let leads : destination_of w x ≡ Some to =
      (law.0 x).0 (list_any_at (nat_eq x) xs i 0 h (eq-eqb x x refl)) in
      let own : destination_of w a.step.exit ≡ Some a.step.to =
      ap (option_map (λ q. q.destination)) (passage-ends w sound p labels a.step.to a.by a.step is.1) in
      let same : a.step.to ≡ to = some-inj a.step.to to (sym own ∙ ap (destination_of w) is.0 ∙ leads) in (
        subst (λ (r : ℕ). Ends (roads_of w p) labels r a.by a.step) same is.1,
        λ by s d. omega (arith, rising-from 0 i s.exit xs law.1 h (left by s d), is.0),
      )

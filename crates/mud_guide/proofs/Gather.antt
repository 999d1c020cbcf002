-- The greatest cost at a room, and the best room.
use Rattle.std.proofs.Common.{◌≡◌, ℕ, ◌+◌, ◌<◌, ◌≤◌, inl, inr, Bool, true, false, List, [], ◌∷◌, length, map, get_or}
use Rattle.std.proofs.Common.{Option, None, Some, refl, sym, ◌∙◌, ap, subst, arith}
use Rattle.std.specs.Prelude.{All, slice_get, IfSome, IfNone, if◌then◌else◌, nat_lt}
use Rattle.std.specs.List.{AllZip}
use Rattle.std.proofs.Common.{◌++◌}
use Rattle.std.proofs.lemmas.Bool.{cases_eq, cases_lt}
use Rattle.std.proofs.lemmas.Bool.Decides.{nat_tests}
use Rattle.std.proofs.lemmas.List.{get_or_default, length-map}
use Rattle.std.proofs.Math.ListN.{get_or-map}
use Rattle.std.proofs.lemmas.Option.{slice_get-get_or}
use Rattle.mud_roads.specs.declared.label.Label.{Label}
use Rattle.mud_world.specs.State.{State}
use Rattle.mud_world.specs.Sound.{IsSound}
use Rattle.mud_roads.specs.Walks.{IsLeast, Least, Goer, HasLeast, Gathers}
use Rattle.mud_roads.specs.Passable.{Knowledge, knowledge_of, IsTraveller, roads_of}
use Rattle.mud_roads.specs.inner.Goer.{goer}
use Rattle.mud_world.specs.State.{is_room}
use Rattle.std.specs.Prelude.{IsTrue}
use Rattle.mud_roads.proofs.Roads.{room-below, traveller-room}
use Rattle.mud_guide.proofs.Shown.{walk-room}
use Rattle.mud_roads.proofs.Routes.{least-one}
use Rattle.mud_search.specs.Least.{AreLeast}
use Rattle.mud_cert.specs.declared.cert.Meeting.{Meeting}
use Rattle.mud_cert.specs.Valid.{IsPlace}
use Rattle.mud_guide.specs.inner.Gatherings.{IsGreatest, IsBest, NoneGather, lesser, BestSoFar}
use Rattle.mud_guide.proofs.Lowest.{some-inj}

pub greatest-none : (labels : ℕ → Option Label) (members m cost : ℕ) → m < members → labels m ≡ None
    → IsGreatest labels members cost → ⊥
greatest-none labels members m cost h e g =
    let bad : Some (g.all m h).0 ≡ None = sym (g.all m h).1.0 ∙ e in
    cc

pub greatest-keep : (labels : ℕ → Option Label) (n cost : ℕ) (l : Label) → IsGreatest labels n cost → labels n ≡ Some l
    → l.cost ≤ cost → IsGreatest labels (n + 1) cost
greatest-keep labels n cost l g e h = record {
  all = λ m lt. elim (cases_eq m n) [
    | inl same ↦ (l, (ap labels same ∙ e, h))
    | inr other ↦ g.all m (omega arith)
  ];
  one = elim g.one [
    | inl none ↦ inr (n, (omega arith, (l, (e, omega (arith, none.1)))))
    | inr some ↦ inr (some.0, (omega (arith, some.1.0), some.1.1))
  ];
}

pub greatest-raise : (labels : ℕ → Option Label) (n cost : ℕ) (l : Label) → IsGreatest labels n cost → labels n ≡ Some l
    → cost < l.cost → IsGreatest labels (n + 1) l.cost
greatest-raise labels n cost l g e h = record {
  all = λ m lt. elim (cases_eq m n) [
    | inl same ↦ (l, (ap labels same ∙ e, omega arith))
    | inr other ↦ let old = g.all m (omega arith) in (old.0, (old.1.0, omega (arith, old.1.1)))
  ];
  one = inr (n, (omega arith, (l, (e, refl))));
}

-- the greatest cost is unique
greatest-most : (labels : ℕ → Option Label) (n c d : ℕ) → IsGreatest labels n c → IsGreatest labels n d → c ≤ d
greatest-most labels n c d a b = elim a.one [
  | inl none ↦ omega (arith, none.1)
  | inr some ↦
      let other = b.all some.0 some.1.0 in
      let same : some.1.1.0 ≡ other.0 = some-inj some.1.1.0 other.0 (sym some.1.1.1.0 ∙ other.1.0) in
      omega (arith, other.1.1, some.1.1.1.1, ap (λ (l : Label). l.cost) same)
]

pub best-skip : (labels : ℕ → ℕ → Option Label) (members room : ℕ) (best : Option Meeting)
    → BestSoFar labels members room best
    → ((cost : ℕ) → IsGreatest (λ m. labels m room) members cost → ⊥) → BestSoFar labels members (room + 1) best
best-skip labels members room None b none = λ r c h g.
    elim (cases_eq r room) [
      | inl same ↦
          let P : ℕ → Type 0 = λ q. IsGreatest (λ m. labels m q) members c in
          none c (subst P same g)
      | inr other ↦ b r c (omega arith) g
    ]
best-skip labels members room (Some p) b none = record {
  inside = omega (arith, b.inside);
  gathers = b.gathers;
  best = λ r c h g.
      elim (cases_eq r room) [
        | inl same ↦
            let P : ℕ → Type 0 = λ q. IsGreatest (λ m. labels m q) members c in
            absurd (none c (subst P same g))
        | inr other ↦ b.best r c (omega arith) g
      ];
}

-- a room is the best if each earlier room where all gather costs more
best-new : (labels : ℕ → ℕ → Option Label) (members room cost : ℕ) → IsGreatest (λ m. labels m room) members cost
    → ((r c : ℕ) → r < room → IsGreatest (λ m. labels m r) members c → cost < c)
    → IsBest labels members (room + 1) (record { room = room; cost = cost })
best-new labels members room cost g dearer = record {
  inside = omega arith;
  gathers = g;
  best = λ r c h f.
      elim (cases_eq r room) [
        | inl same ↦
            let P : ℕ → Type 0 = λ q. IsGreatest (λ m. labels m q) members c in
            inr (
              omega (
                arith,
                greatest-most (λ m. labels m room) members cost c g (subst P same f),
                greatest-most (λ m. labels m room) members c cost (subst P same f) g,
              ),
              omega arith,
            )
        | inr other ↦ inl (dearer r c (omega arith) f)
      ];
}

pub best-step : (labels : ℕ → ℕ → Option Label) (members room cost : ℕ) (best : Option Meeting)
    → BestSoFar labels members room best
    → IsGreatest (λ m. labels m room) members cost → BestSoFar labels members (room + 1) (lesser best room cost)
best-step labels members room cost None b g =
    best-new labels members room cost g (λ r c h f. absurd (b r c h f))
best-step labels members room cost (Some p) b g = go (nat_lt cost p.cost) refl
  where
    go : (t : Bool) → nat_lt cost p.cost ≡ t
        → BestSoFar labels members (room + 1) (if t then Some (record { room = room; cost = cost }) else Some p)
    go true e =
        let less : cost < p.cost = grind (arith, nat_tests) in
        best-new labels members room cost g
        (λ r c h f. elim (b.best r c h f) [ inl x ↦ omega (arith, x) | inr x ↦ omega (arith, x.0) ])
    go false e =
        let most : p.cost ≤ cost = grind (arith, nat_tests) in
        record {
          inside = omega (arith, b.inside);
          gathers = b.gathers;
          best = λ r c h f.
              elim (cases_eq r room) [
                | inl same ↦
                    let P : ℕ → Type 0 = λ q. IsGreatest (λ m. labels m q) members c in
                    let low : cost ≤ c = greatest-most (λ m. labels m room) members cost c g (subst P same f) in
                    elim (cases_lt p.cost c) [ inl x ↦ inl x | inr x ↦ inr (omega arith, omega (arith, b.inside)) ]
                | inr other ↦ b.best r c (omega arith) f
              ];
        }

pub best-some : (labels : ℕ → ℕ → Option Label) (members room next : ℕ) (best : Option Meeting) → room ≡ next
    → BestSoFar labels members room best
    → IfSome best (λ p. IsBest labels members next p)
best-some labels members room next None e b = tt
best-some labels members room next (Some p) e b =
    let P : ℕ → Type 0 = λ n. IsBest labels members n p in
    subst P e b

pub best-none : (labels : ℕ → ℕ → Option Label) (members room next : ℕ) (best : Option Meeting) → room ≡ next
    → BestSoFar labels members room best
    → IfNone best (NoneGather labels members next)
best-none labels members room next (Some p) e b = tt
best-none labels members room next None e b =
    let P : ℕ → Type 0 = λ n. NoneGather labels members n in
    subst P e b

pub best-greatest : (labels : ℕ → ℕ → Option Label) (members next : ℕ) (best : Option Meeting)
    → IfSome best (IsBest labels members next)
    → IfSome best (λ p. IsGreatest (λ m. labels m p.room) members p.cost)
best-greatest labels members next None b = tt
best-greatest labels members next (Some p) b = b.gathers

-- the members as travellers
abbrev pub goers : State → List Knowledge → List Goer
goers w ts = map (goer w) ts

module _ (w : State) (ts : List Knowledge) (labels : ℕ → ℕ → Option Label) (least : AreLeast w ts labels) where
  abbrev nobody : Knowledge
  nobody = knowledge_of 0 0 false ([], []) [] []

  abbrev member : ℕ → Knowledge
  member m = get_or ts m nobody

  is-member : (m : ℕ) → m < length ts → slice_get ts m ≡ Some (member m)
  is-member m h = slice_get-get_or ts m nobody h

  label-least : (m room : ℕ) (l : Label) → m < length ts → labels m room ≡ Some l
      → IsLeast 1 (roads_of w (member m).player) (member m).place room l
  label-least m room l h e =
      let P : Option Label → Type 0 = λ o. Least 1 (roads_of w (member m).player) (member m).place room o in
      subst P e (least m room (member m) (is-member m h))

  least-label : (m room : ℕ) (l : Label) → m < length ts
      → IsLeast 1 (roads_of w (member m).player) (member m).place room l → labels m room ≡ Some l
  least-label m room l h is = least-one 1 (roads_of w (member m).player) (member m).place room (labels m room) l
      (least m room (member m) (is-member m h)) is

  goer-at : (m : ℕ) (d : Goer) → m < length ts → get_or (goers w ts) m d ≡ goer w (member m)
  goer-at m d h =
      let inside : m < length (goers w ts) = rw (length-map ts (goer w)) h in
      get_or_default (goers w ts) m d (goer w nobody) inside ∙ get_or-map (goer w) ts m nobody

  pub gathers-from_greatest : (room cost : ℕ) → 0 < length ts → IsGreatest (λ m. labels m room) (length ts) cost
      → Gathers (HasLeast 1) (goers w ts) room cost
  gathers-from_greatest room cost some g = record {
    all = λ m d h.
        let inside : m < length ts = rw (← length-map ts (goer w)) h in
        let P : Goer → Type 0 = λ p. (l : Label) × IsLeast 1 p.0 p.1 room l × (l.cost ≤ cost) in
        let own = g.all m inside in
        subst P (sym (goer-at m d inside)) (own.0, label-least m room own.0 inside own.1.0, own.1.1);
    one = elim g.one [
      | inl none ↦ let bad : ⊥ = omega (arith, none.0) in absurd bad
      | inr own ↦
          let inside : own.0 < length (goers w ts) = rw (length-map ts (goer w)) own.1.0 in (
            own.0,
            goer w (member own.0),
            inside,
            goer-at own.0 (goer w (member own.0)) own.1.0,
            (own.1.1.0, label-least own.0 room own.1.1.0 own.1.0 own.1.1.1.0, own.1.1.1.1),
          )
    ];
  }

  pub greatest-from_gathers : (room cost : ℕ) → Gathers (HasLeast 1) (goers w ts) room cost
      → IsGreatest (λ m. labels m room) (length ts) cost
  greatest-from_gathers room cost g =
      let P : Goer → Type 0 = λ p. (l : Label) × IsLeast 1 p.0 p.1 room l × (l.cost ≤ cost) in
      let Q : Goer → Type 0 = λ p. (l : Label) × IsLeast 1 p.0 p.1 room l × (l.cost ≡ cost) in
      let (k, p, h, e, own) = g.one in
      let within : k < length ts = rw (← length-map ts (goer w)) h in
      let mine = subst Q (sym e ∙ goer-at k p within) own in
      record {
        all = λ m h.
            let inside : m < length (goers w ts) = rw (length-map ts (goer w)) h in
            let a = subst P (goer-at m (goer w nobody) h) (g.all m (goer w nobody) inside) in
            (a.0, (least-label m room a.0 h a.1, a.2));
        one = inr (k, (within, (mine.0, (least-label k room mine.0 within mine.1, mine.2))));
      }

  room-within : IsSound w → All (IsTraveller w) ts → 0 < length ts → (r c : ℕ)
      → Gathers (HasLeast 1) (goers w ts) r c → r < w.next
  room-within sound are some r c g =
      let own = (greatest-from_gathers r c g).all 0 some in
      let is = label-least 0 r own.0 some own.1.0 in
      room-below w sound r
      (walk-room w sound (member 0).player (member 0).place r is.walked.0
      (traveller-room w sound (member 0) (are 0 nobody some)) is.walked.1)

  pub place-is : IsSound w → All (IsTraveller w) ts → 0 < length ts → (o : Option Meeting)
      → IfSome o (IsBest labels (length ts) w.next) → IfNone o (NoneGather labels (length ts) w.next)
      → IsPlace (HasLeast 1) (goers w ts) o
  place-is sound are some (Some p) best none = record {
    gathers = gathers-from_greatest p.room p.cost some best.gathers;
    best = λ r c g. best.best r c (room-within sound are some r c g) (greatest-from_gathers r c g);
  }
  place-is sound are some None best none =
      λ r c g. none r c (room-within sound are some r c g) (greatest-from_gathers r c g)

  pub best-room : IsSound w → All (IsTraveller w) ts → 0 < length ts → (o : Option Meeting)
      → IfSome o (IsBest labels (length ts) w.next) → IfSome o (λ p. IsTrue (is_room w p.room))
  best-room sound are some None b = tt
  best-room sound are some (Some p) b =
      let own = b.gathers.all 0 some in
      let is = label-least 0 p.room own.0 some own.1.0 in
      walk-room w sound (member 0).player (member 0).place p.room is.walked.0
      (traveller-room w sound (member 0) (are 0 nobody some)) is.walked.1

pub allzip-push : {A B : Type 0} (R : A → B → Type 0) (xs : List A) (ys : List B) (x : A) (y : B) → AllZip R xs ys
    → R x y → AllZip R (xs ++ x ∷ []) (ys ++ y ∷ [])
allzip-push R [] [] x y h r = (r, tt)
allzip-push R [] (b ∷ ys) x y h r = absurd h
allzip-push R (a ∷ xs) [] x y h r = absurd h
allzip-push R (a ∷ xs) (b ∷ ys) x y h r = (h.0, allzip-push R xs ys x y h.1 r)

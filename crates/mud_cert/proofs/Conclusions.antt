-- The test of a conclusion decides the agreement.
use Rattle.std.proofs.Common.{◌≡◌, ℕ, ◌<◌, ◌≤◌, ◌⊎◌, inl, inr, List, [], ◌∷◌, length, get_or, Option, None, Some, Bool}
use Rattle.std.proofs.Common.{true, false, ◌&&◌, refl, sym, ◌∙◌, ap, subst, arith, eqb, leb, ltb, max, suc}
use Rattle.std.specs.Prelude.{All, Any, is_none, option_map}
use Rattle.std.specs.List.{list_any, list_all}
use Rattle.std.proofs.lemmas.Bool.{and_parts, and_from, or_cases, or_left, or_right, eqb-true, eq-eqb, leb-true, le-leb}
use Rattle.std.proofs.lemmas.Bool.{ltb-true, lt-ltb, false≢true, cases_Bool, cases_lt}
use Rattle.std.proofs.lemmas.List.Elements.{All-nil, All-cons, All-head, All-tail}
use Rattle.std.proofs.lemmas.List.Sums.{AllPass-from_list_all, list_all-from_AllPass}
use Rattle.std.proofs.lemmas.List.Folds.{Any-from_list_any, list_any-from_Any}
use Rattle.mud_roads.specs.declared.label.Label.{Label}
use Rattle.mud_roads.specs.declared.label.Step.{Step}
use Rattle.mud_roads.specs.Walks.{total, Gathers}
use Rattle.mud_world.specs.State.{State, is_room}
use Rattle.mud_world.specs.Sound.{IsSound}
use Rattle.mud_cert.specs.Certificate.{Account, hop_of}
use Rattle.mud_cert.specs.declared.cert.Conclusion.{Conclusion}
use Rattle.mud_cert.specs.declared.cert.Conclusion.TheVariants.{Route, Meet}
use Rattle.mud_cert.specs.Lookup.{label_at}
use Rattle.mud_cert.specs.inner.Labels.{label_in}
use Rattle.mud_cert.specs.inner.Ways.{end_of, arrival, arrival_of}
use Rattle.mud_cert.specs.inner.Agreement.{with_label, greatest_from, greatest_cost}
use Rattle.mud_cert.specs.inner.Tests.{is_there_within, is_there_at, is_no_worse, first_labels, stays, misses}
use Rattle.mud_cert.specs.inner.Tests.{concludes}
use Rattle.mud_cert.specs.declared.cert.Form.{Form}
use Rattle.mud_cert.specs.Valid.{States, IsMember, GoesTo, Agrees}
use Rattle.mud_cert.proofs.Lookups.{label-behind}
use Rattle.mud_cert.proofs.Doubtless.{IsTaken, walk-to}

there-at : (room cost : ℕ) (o : Option (ℕ × ℕ)) → is_there_at room cost o ≡ true → o ≡ Some (room, cost)
there-at room cost None e = absurd (false≢true e)
there-at room cost (Some a) e =
    let p = and_parts (eqb a.0 room) (eqb a.1 cost) e in
    let x : a.0 ≡ room = eqb-true a.0 room p.0 in
    let y : a.1 ≡ cost = eqb-true a.1 cost p.1 in
    ap (λ r. Some (r, a.1)) x ∙ ap (λ c. Some (room, c)) y

at-there : (room cost : ℕ) (o : Option (ℕ × ℕ)) → o ≡ Some (room, cost) → is_there_at room cost o ≡ true
at-there room cost o e = ap (λ x. is_there_at room cost x) e ∙ and_from (eqb room room) (eqb cost cost)
    (eq-eqb room room refl) (eq-eqb cost cost refl)

there-within : (room cost : ℕ) (o : Option (ℕ × ℕ)) → is_there_within room cost o ≡ true
    → (c : ℕ) × (o ≡ Some (room, c)) × (c ≤ cost)
there-within room cost None e = absurd (false≢true e)
there-within room cost (Some a) e =
    let p = and_parts (eqb a.0 room) (leb a.1 cost) e in
    let x : a.0 ≡ room = eqb-true a.0 room p.0 in
    (a.1, ap (λ r. Some (r, a.1)) x, leb-true a.1 cost p.1)

within-there : (room cost : ℕ) (o : Option (ℕ × ℕ)) → (c : ℕ) × (o ≡ Some (room, c)) × (c ≤ cost)
    → is_there_within room cost o ≡ true
within-there room cost o (c, e, le) = ap (λ x. is_there_within room cost x) e ∙ and_from (eqb room room) (leb c cost)
    (eq-eqb room room refl) (le-leb c cost le)

none-from : {A : Type 0} (o : Option A) → is_none o ≡ true → o ≡ None
none-from None e = refl
none-from (Some x) e = absurd (false≢true e)

none-to : {A : Type 0} (o : Option A) → o ≡ None → is_none o ≡ true
none-to o e = ap is_none e

no-worse : (cost room r c : ℕ) → is_no_worse cost room r (Some c) ≡ true → (cost < c) ⊎ ((cost ≡ c) × (room ≤ r))
no-worse cost room r c e = go (or_cases (ltb cost c) (eqb cost c && leb room r) e)
  where
    go : (ltb cost c ≡ true) ⊎ ((eqb cost c && leb room r) ≡ true) → (cost < c) ⊎ ((cost ≡ c) × (room ≤ r))
    go (inl h) = inl (ltb-true cost c h)
    go (inr h) = let p = and_parts (eqb cost c) (leb room r) h in inr (eqb-true cost c p.0, leb-true room r p.1)

to-no-worse : (cost room r : ℕ) (o : Option ℕ) → ((c : ℕ) → o ≡ Some c → (cost < c) ⊎ ((cost ≡ c) × (room ≤ r)))
    → is_no_worse cost room r o ≡ true
to-no-worse cost room r None h = refl
to-no-worse cost room r (Some c) h = go (h c refl)
  where
    go : (cost < c) ⊎ ((cost ≡ c) × (room ≤ r)) → is_no_worse cost room r (Some c) ≡ true
    go (inl lt) = or_left (ltb cost c) (eqb cost c && leb room r) (lt-ltb cost c lt)
    go (inr p) = or_right (ltb cost c) (eqb cost c && leb room r)
        (and_from (eqb cost c) (leb room r) (eq-eqb cost c p.0) (le-leb room r p.1))

-- a room with a label is among the labels
entry-of : (es : List (ℕ × Label)) (room : ℕ) (l : Label) → label_in es room ≡ Some l → (k : ℕ) × (k < length es)
    × ((d : ℕ × Label) → (get_or es k d).0 ≡ room)
entry-of [] room l e = absurd (cc)
entry-of (x ∷ es) room l e = go (λ f. entry-of es room l f) (cases_Bool (eqb x.0 room))
  where
    go : (label_in es room ≡ Some l → (k : ℕ) × (k < length es) × ((d : ℕ × Label) → (get_or es k d).0 ≡ room))
        → (eqb x.0 room ≡ true) ⊎ (eqb x.0 room ≡ false)
        → (k : ℕ) × (k < length (x ∷ es)) × ((d : ℕ × Label) → (get_or (x ∷ es) k d).0 ≡ room)
    go again (inl h) = (0, omega arith, λ d. eqb-true x.0 room h)
    go again (inr h) =
        let r = again (sym (label-behind x es room h) ∙ e) in
        (suc r.0, omega (arith, r.1), λ d. r.2 d)

with-some : (o : Option Label) (f : Label → Option ℕ) (c : ℕ) → with_label o f ≡ Some c
    → (l : Label) × (o ≡ Some l) × (f l ≡ Some c)
with-some None f c e = absurd (cc)
with-some (Some l) f c e = (l, refl, e)

-- if all members label the room, the first member's labels have it
first-has : (ms : List Account) (room c : ℕ) → 0 < length ms → greatest_cost ms room ≡ Some c
    → (k : ℕ) × (k < length (first_labels ms)) × ((d : ℕ × Label) → (get_or (first_labels ms) k d).0 ≡ room)
first-has [] room c some e = absurd (omega arith)
first-has (m ∷ ms) room c some e =
    let r = with-some (label_at m room) (λ l. greatest_from (max 0 l.cost) ms room) c e in
    entry-of m.labels room r.0 r.1

none-since : (o : Option ℕ) → ((c : ℕ) → o ≡ Some c → ⊥) → o ≡ None
none-since None h = refl
none-since (Some c) h = absurd (h c refl)

-- ---- the labels of a party

-- the members' labels that the conclusion must agree with
abbrev pub Labels : Account → ℕ → Option Label → Type 0
Labels m room l = label_at m room ≡ l

abbrev pub Below : ℕ → ℕ → Account → Type 0
Below r c m = (l : Label) × (label_at m r ≡ Some l) × (l.cost ≤ c)

abbrev Exactly : ℕ → ℕ → Account → Type 0
Exactly r c m = (l : Label) × (label_at m r ≡ Some l) × (l.cost ≡ c)

record IsGathered (ms : List Account) (r k c : ℕ) : Type 0 where
  all : All (Below r c) ms
  above : k ≤ c
  one : (c ≡ k) ⊎ Any (Exactly r c) ms

-- one more member before the others
gathered-more : (m : Account) (ms : List Account) (r k c : ℕ) (l : Label) → label_at m r ≡ Some l
    → IsGathered ms r (max k l.cost) c → IsGathered (m ∷ ms) r k c
gathered-more m ms r k c l f rest = record {
  all = All-cons (Below r c) m ms (l, f, omega (arith, rest.above)) rest.all;
  above = omega (arith, rest.above);
  one = one rest.one;
}
  where
    one : (c ≡ max k l.cost) ⊎ Any (Exactly r c) ms → (c ≡ k) ⊎ Any (Exactly r c) (m ∷ ms)
    one (inr (i, x, lt, e, own)) = inr (suc i, x, omega (arith, lt), e, own)
    one (inl same) =
        elim (cases_lt k l.cost) [
          | inl less ↦ inr (0, m, omega arith, refl, (l, f, omega (arith, same)))
          | inr most ↦ inl (omega (arith, same))
        ]

gathered-is : (ms : List Account) (r k c : ℕ) → greatest_from k ms r ≡ Some c → IsGathered ms r k c
gathered-is [] r k c e =
    let same : k ≡ c = cc in
    record { all = All-nil (Below r c); above = omega (arith, same); one = inl (sym same) }
gathered-is (m ∷ ms) r k c e =
    let own = with-some (label_at m r) (λ l. greatest_from (max k l.cost) ms r) c e in
    gathered-more m ms r k c own.0 own.1 (gathered-is ms r (max k own.0.cost) c own.2)

pub gathers-from : (ms : List Account) (r c : ℕ) → 0 < length ms → greatest_cost ms r ≡ Some c → Gathers Labels ms r c
gathers-from [] r c some e = absurd (omega arith)
gathers-from (m ∷ ms) r c some e =
    let is = gathered-is (m ∷ ms) r 0 c e in
    let first : Below r c m = All-head (Below r c) m ms is.all in
    record {
      all = is.all;
      one = elim is.one [
        | inl none ↦
            (0, m, omega arith, refl, (first.0, first.1, omega (arith, first.2, none)))
        | inr any ↦ any
      ];
    }

pub gathered-all : (ms : List Account) (r k most : ℕ) → k ≤ most → All (Below r most) ms
    → (f : ℕ) × (greatest_from k ms r ≡ Some f) × (f ≤ most)
gathered-all [] r k most le all = (k, refl, le)
gathered-all (m ∷ ms) r k most le all =
    let first : Below r most m = All-head (Below r most) m ms all in
    let rest = gathered-all ms r (max k first.0.cost) most (omega (arith, le, first.2))
    (All-tail (Below r most) m ms all) in
    (rest.0, ap (λ o. with_label o (λ l. greatest_from (max k l.cost) ms r)) first.1 ∙ rest.1, rest.2)

pub gathers-to : (ms : List Account) (r c : ℕ) → Gathers Labels ms r c → greatest_cost ms r ≡ Some c
gathers-to ms r c g =
    let found = gathered-all ms r 0 c (omega arith) g.all in
    let is = gathered-is ms r 0 found.0 found.1 in
    let (i, m, lt, e, (l, label, cost)) = g.one in
    let other : Below r found.0 m = subst (Below r found.0) e (is.all i m lt) in
    let both : Some other.0 ≡ Some l = sym other.1 ∙ label in
    let same : other.0 ≡ l = cc in
    let equal : found.0 ≡ c = omega (arith, found.2, other.2, cost, ap (λ (x : Label). x.cost) same) in
    found.1 ∙ ap Some equal

-- ---- given walks

-- the end and the cost of a given walk
pub arrives : (w : State) → IsSound w → (m : Account) (to : ℕ) (ss : List Step) → States w m to ss
    → arrival_of w m ≡ Some (to, (total 0 ss).cost)
arrives w sound m to ss states =
    let t : IsTaken w m.player m.from to 1 1 ss = walk-to w sound m.player m.from to 1 1 ss states.walk in
    let at : List Step → Option (ℕ × ℕ) = λ xs. Some (end_of m.from xs, (total 0 xs).cost) in
    let there : ℕ → Option (ℕ × ℕ) = λ n. Some (n, (total 0 ss).cost) in
    ap (arrival w m.from) states.stated ∙ ap at t.same ∙ ap there t.ends

-- a given walk to the room, at the cost of its label
pub record Comes (w : State) (form : Form) (m : Account) (to cost : ℕ) : Type 0 where
  pub steps : List Step
  pub states : States w m to steps
  pub label : label_at m to ≡ Some (total (hop_of form) steps)
  pub costs : (total (hop_of form) steps).cost ≡ cost

pub comes-from : (w : State) → IsSound w → (form : Form) (m : Account) → IsMember w form m → (to cost : ℕ)
    → arrival_of w m ≡ Some (to, cost) → Comes w form m to cost
comes-from w sound form m i to cost e = go i.walk
  where
    go : (m.walk ≡ None)
        ⊎ ((r : ℕ) × (ss : List Step) × States w m r ss × (label_at m r ≡ Some (total (hop_of form) ss)))
        → Comes w form m to cost
    go (inl none) = absurd (let bad : None ≡ Some (to, cost) = sym (ap (arrival w m.from) none) ∙ e in cc)
    go (inr (r, ss, states, label)) =
        let both : Some (r, (total 0 ss).cost) ≡ Some (to, cost) = sym (arrives w sound m r ss states) ∙ e in
        let pair : (r, (total 0 ss).cost) ≡ (to, cost) = cc in
        let P : ℕ → Type 0 = λ n. Comes w form m n cost in
        subst P (ap (λ (a : ℕ × ℕ). a.0) pair)
        (record { steps = ss; states = states; label = label; costs = ap (λ (a : ℕ × ℕ). a.1) pair })

comes-to : (w : State) → IsSound w → (form : Form) (m : Account) → IsMember w form m → (to : ℕ) (l : Label)
    → GoesTo w (Some to) m → label_at m to ≡ Some l → arrival_of w m ≡ Some (to, l.cost)
comes-to w sound form m i to l (ss, states) e =
    let there = arrives w sound m to ss states in
    let own = comes-from w sound form m i to (total 0 ss).cost there in
    let both : Some (total (hop_of form) own.steps) ≡ Some l = sym own.label ∙ e in
    let same : total (hop_of form) own.steps ≡ l = cc in
    there ∙ ap (λ (c : ℕ). Some (to, c)) (sym own.costs ∙ ap (λ (x : Label). x.cost) same)

-- a labelled object is a room
labelled-room : (w : State) (form : Form) (m : Account) → IsMember w form m → (room : ℕ) (l : Label)
    → label_at m room ≡ Some l → is_room w room ≡ true
labelled-room w form m i room l e =
    let at = entry-of m.labels room l e in
    let z : ℕ × Label = (0, record { cost = 0; exits = 0 }) in
    subst (λ n. is_room w n ≡ true) (at.2 z) (i.rooms at.0 z at.1)

pub costed : (o : Option Label) (cost : ℕ) → option_map (λ (l : Label). l.cost) o ≡ Some cost
    → (l : Label) × (o ≡ Some l) × (l.cost ≡ cost)
costed None cost e = absurd (cc)
costed (Some l) cost e = (l, refl, cc)

pub costless : (o : Option Label) → option_map (λ (l : Label). l.cost) o ≡ None → o ≡ None
costless None e = refl
costless (Some l) e = absurd (cc)

-- ---- conclusions

pub concludes-from : (w : State) → IsSound w → (form : Form) (ms : List Account) (k : Conclusion) → 0 < length ms
    → All (IsMember w form) ms → concludes w ms k ≡ true
    → Agrees w Labels ms k
concludes-from w sound form ms (Route to (Some cost)) some are e =
    let p = and_parts (is_room w to) (list_all (λ m. is_there_at to cost (arrival_of w m)) ms) e in
    let comes : All (λ m. Comes w form m to cost) ms = λ i d lt.
    comes-from w sound form (get_or ms i d) (are i d lt) to cost
    (there-at to cost (arrival_of w (get_or ms i d))
    (AllPass-from_list_all (λ m. is_there_at to cost (arrival_of w m)) ms p.1 i d lt)) in (
      p.0,
      λ i d lt. ((comes i d lt).steps, (comes i d lt).states),
      λ i d lt. (Some (total (hop_of form) (comes i d lt).steps), (comes i d lt).label, ap Some (comes i d lt).costs),
    )
concludes-from w sound form ms (Route to None) some are e =
    let p = and_parts (is_room w to) (list_all (misses to) ms) e in
    let q : All (λ m. (stays m ≡ true) × (is_none (label_at m to) ≡ true)) ms = λ i d lt.
    and_parts (stays (get_or ms i d)) (is_none (label_at (get_or ms i d) to))
    (AllPass-from_list_all (misses to) ms p.1 i d lt) in (
      p.0,
      λ i d lt. none-from (get_or ms i d).walk (q i d lt).0,
      λ i d lt. (None, none-from (label_at (get_or ms i d) to) (q i d lt).1, refl),
    )
concludes-from w sound form ms (Meet (Some meeting)) some are e =
    let room : ℕ = meeting.room in
    let cost : ℕ = meeting.cost in
    let t1 : Bool = is_room w room in
    let t2 : Bool = list_all (λ m. is_there_within room cost (arrival_of w m)) ms in
    let t3 : Bool = list_any (λ m. is_there_at room cost (arrival_of w m)) ms in
    let best : ℕ × Label → Bool = λ (x : ℕ × Label). is_no_worse cost room x.0 (greatest_cost ms x.0) in
    let t4 : Bool = list_all best (first_labels ms) in
    let p = and_parts ((t1 && t2) && t3) t4 e in
    let q = and_parts (t1 && t2) t3 p.0 in
    let r = and_parts t1 t2 q.0 in
    let one : Any (λ m. is_there_at room cost (arrival_of w m) ≡ true) ms =
    Any-from_list_any (λ m. is_there_at room cost (arrival_of w m)) ms q.1 in
    let comes : All (λ m. (c : ℕ) × Comes w form m room c × (c ≤ cost)) ms = λ i d lt.
    let there = there-within room cost (arrival_of w (get_or ms i d))
    (AllPass-from_list_all (λ m. is_there_within room cost (arrival_of w m)) ms r.1 i d lt) in
    (there.0, comes-from w sound form (get_or ms i d) (are i d lt) room there.0 there.1, there.2) in
    let own : Comes w form one.1 room cost =
    comes-from w sound form one.1 (subst (IsMember w form) one.3 (are one.0 one.1 one.2)) room cost
    (there-at room cost (arrival_of w one.1) one.4) in (
      λ i d lt. let c = comes i d lt in (c.1.steps, c.1.states),
      record {
        gathers = record {
          all = λ i d lt. let c = comes i d lt in
              (total (hop_of form) c.1.steps, c.1.label, omega (arith, c.1.costs, c.2));
          one = (one.0, one.1, one.2, one.3, (total (hop_of form) own.steps, own.label, own.costs));
        };
        best = λ a c g.
            let f = first-has ms a c some (gathers-to ms a c g) in
            let z : ℕ × Label = (0, record { cost = 0; exits = 0 }) in
            let at : best (get_or (first_labels ms) f.0 z) ≡ true =
            AllPass-from_list_all best (first_labels ms) p.1 f.0 z f.1 in
            let at2 : is_no_worse cost room a (greatest_cost ms a) ≡ true =
            ap (λ n. is_no_worse cost room n (greatest_cost ms n)) (sym (f.2 z)) ∙ at in
            no-worse cost room a c (ap (λ o. is_no_worse cost room a o) (sym (gathers-to ms a c g)) ∙ at2);
      },
    )
concludes-from w sound form ms (Meet None) some are e =
    let apart : ℕ × Label → Bool = λ (x : ℕ × Label). is_none (greatest_cost ms x.0) in
    let p = and_parts (list_all stays ms) (list_all apart (first_labels ms)) e in (
      λ i d lt. none-from (get_or ms i d).walk (AllPass-from_list_all stays ms p.0 i d lt),
      λ a c g.
          let f = first-has ms a c some (gathers-to ms a c g) in
          let z : ℕ × Label = (0, record { cost = 0; exits = 0 }) in
          let at : apart (get_or (first_labels ms) f.0 z) ≡ true =
          AllPass-from_list_all apart (first_labels ms) p.1 f.0 z f.1 in
          let at2 : is_none (greatest_cost ms a) ≡ true = ap (λ n. is_none (greatest_cost ms n)) (sym (f.2 z)) ∙ at in
          false≢true (ap (λ o. is_none o) (sym (gathers-to ms a c g)) ∙ at2),
    )

pub concludes-to : (w : State) → IsSound w → (form : Form) (ms : List Account) (k : Conclusion) → 0 < length ms
    → All (IsMember w form) ms → Agrees w Labels ms k
    → concludes w ms k ≡ true
concludes-to w sound form ms (Route to (Some cost)) some are v =
    and_from (is_room w to) (list_all (λ m. is_there_at to cost (arrival_of w m)) ms) v.0
    (list_all-from_AllPass (λ m. is_there_at to cost (arrival_of w m)) ms (λ i d lt.
    let m : Account = get_or ms i d in
    let has = v.2 i d lt in
    let l = costed has.0 cost has.2 in
    at-there to cost (arrival_of w m)
    (comes-to w sound form m (are i d lt) to l.0 (v.1 i d lt) (has.1 ∙ l.1) ∙ ap (λ (c : ℕ). Some (to, c)) l.2)))
concludes-to w sound form ms (Route to None) some are v =
    and_from (is_room w to) (list_all (misses to) ms) v.0
    (list_all-from_AllPass (misses to) ms (λ i d lt.
    let m : Account = get_or ms i d in
    let has = v.2 i d lt in
    and_from (stays m) (is_none (label_at m to)) (none-to m.walk (v.1 i d lt))
    (none-to (label_at m to) (has.1 ∙ costless has.0 has.2))))
concludes-to w sound form ms (Meet (Some meeting)) some are v =
    let room : ℕ = meeting.room in
    let cost : ℕ = meeting.cost in
    let best : ℕ × Label → Bool = λ (x : ℕ × Label). is_no_worse cost room x.0 (greatest_cost ms x.0) in
    let (k, x, lt, e, (l, label, costs)) = v.1.gathers.one in
    let member : IsMember w form x = subst (IsMember w form) e (are k x lt) in
    let goes : GoesTo w (Some room) x = subst (GoesTo w (Some room)) e (v.0 k x lt) in
    let there : arrival_of w x ≡ Some (room, cost) =
    comes-to w sound form x member room l goes label ∙ ap (λ (c : ℕ). Some (room, c)) costs in
    and_from _ _
    (and_from _ _
    (and_from _ _ (labelled-room w form x member room l label)
    (list_all-from_AllPass (λ m. is_there_within room cost (arrival_of w m)) ms (λ i d lt.
    let m : Account = get_or ms i d in
    let has = v.1.gathers.all i d lt in
    within-there room cost (arrival_of w m)
    (has.0.cost, comes-to w sound form m (are i d lt) room has.0 (v.0 i d lt) has.1, has.2))))
    (list_any-from_Any (λ m. is_there_at room cost (arrival_of w m)) ms
    (k, x, lt, e, at-there room cost (arrival_of w x) there)))
    (list_all-from_AllPass best (first_labels ms) (λ i d lt.
    let a : ℕ = (get_or (first_labels ms) i d).0 in
    to-no-worse cost room a (greatest_cost ms a) (λ c g. v.1.best a c (gathers-from ms a c some g))))
concludes-to w sound form ms (Meet None) some are v =
    let apart : ℕ × Label → Bool = λ (x : ℕ × Label). is_none (greatest_cost ms x.0) in
    and_from (list_all stays ms) (list_all apart (first_labels ms))
    (list_all-from_AllPass stays ms (λ i d lt. none-to (get_or ms i d).walk (v.0 i d lt)))
    (list_all-from_AllPass apart (first_labels ms) (λ i d lt.
    let a : ℕ = (get_or (first_labels ms) i d).0 in
    none-to (greatest_cost ms a) (none-since (greatest_cost ms a) (λ c g. v.1 a c (gathers-from ms a c some g)))))

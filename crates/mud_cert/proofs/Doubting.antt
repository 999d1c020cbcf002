-- The doubts of a member: the tests return the first one that holds.
use Rattle.std.proofs.Common.{◌≡◌, ℕ, zero, suc, ◌<◌, ◌≤◌, ◌⊎◌, inl, inr, List, take, All, Option, None, Some, Bool}
use Rattle.std.proofs.Common.{true, false, not, refl, sym, ◌∙◌, ap, subst, arith, eq-eqb}
use Rattle.std.specs.Prelude.{Contains, option_map, option_and_then, IsSomeAnd}
use Rattle.std.specs.List.{find}
use Rattle.std.proofs.lemmas.Bool.{and_parts, cases_Bool, cases_lt, not-true}
use Rattle.mud_roads.specs.declared.label.Label.{Label}
use Rattle.mud_roads.specs.Labels.{Reaches}
use Rattle.mud_roads.specs.Passable.{passable, roads_of}
use Rattle.mud_roads.specs.Walks.{exits_of, total, after}
use Rattle.mud_world.specs.State.{State, place_of, source_of, is_number}
use Rattle.mud_world.specs.Sound.{IsSound}
use Rattle.mud_cert.specs.declared.cert.Form.{Form}
use Rattle.mud_cert.specs.declared.doubt.Doubt.{Doubt}
use Rattle.mud_cert.specs.declared.doubt.Doubt.TheVariants as doubts
use Rattle.mud_cert.specs.Certificate.{Account, hop_of}
use Rattle.mud_cert.specs.Lookup.{label_at}
use Rattle.mud_cert.specs.inner.Ways.{step_of, steps_of, end_of}
use Rattle.mud_cert.specs.inner.Tests.{◌or◌, unless, numbers, is_label, is_new, stands, is_started, is_kept}
use Rattle.mud_cert.specs.inner.Tests.{label_behind}
use Rattle.mud_cert.specs.inner.Tests.{breaks, first_break, first_lock, given_doubt, member_doubt}
use Rattle.mud_world.specs.FirstFailure.{FailsAt}
use Rattle.mud_cert.specs.Doubts.{Breaks, IsUnbroken, Holds}
use Rattle.mud_cert.proofs.Finds.{find-none, find-some}
use Rattle.mud_cert.proofs.Ways.{road-at, road-of, open-source, step-exit}
use Rattle.mud_cert.proofs.Doubtless.{at-most-to, kept-by}
use Rattle.mud_cert.proofs.Members.{placed, new-from, new-to, started-from, started-to}
use Rattle.mud_cert.proofs.Walking.{broken-from, broken-to, locked-from, locked-to, IsMislabelled, is-mislabelled}
use Rattle.mud_cert.proofs.Walking.{mislabelled-fails}

-- ---- tests

-- the number of the test that raises a doubt
abbrev pub rank : Doubt → ℕ
rank doubts.OutOfMemory = 0
rank (doubts.NoSuchPlayer p) = 1
rank (doubts.WrongStart p) = 2
rank (doubts.StartLabel p) = 3
rank (doubts.Arc p x) = 4
rank (doubts.WalkBroken p i) = 5
rank (doubts.WalkLocked p i) = 6
rank (doubts.WalkCost p) = 7
rank doubts.Conclusion = 8

-- the doubt holds by its own test
abbrev pub Raises : State → Form → List Account → Account → Doubt → Type 0
Raises w form earlier m d = Holds w form earlier m (rank d) d

-- no other test raises it
pub ranked : (w : State) (form : Form) (earlier : List Account) (m : Account) (n : ℕ) (d : Doubt)
    → Holds w form earlier m n d → n ≡ rank d
ranked w form earlier m n (doubts.NoSuchPlayer p) h = h.0
ranked w form earlier m n (doubts.WrongStart p) h = h.0
ranked w form earlier m n (doubts.StartLabel p) h = h.0
ranked w form earlier m n (doubts.Arc p x) h = h.0
ranked w form earlier m n (doubts.WalkBroken p at) h = h.0
ranked w form earlier m n (doubts.WalkLocked p at) h = h.0
ranked w form earlier m n (doubts.WalkCost p) h = h.0
ranked w form earlier m n doubts.Conclusion h = absurd h
ranked w form earlier m n doubts.OutOfMemory h = absurd h

pub raised : (w : State) (form : Form) (earlier : List Account) (m : Account) (n : ℕ) (d : Doubt)
    → Holds w form earlier m n d → Raises w form earlier m d
raised w form earlier m n d h = subst (λ k. Holds w form earlier m k d) (ranked w form earlier m n d h) h

pub or-some : (a b : Option Doubt) (d : Doubt) → (a or b) ≡ Some d → (a ≡ Some d) ⊎ ((a ≡ None) × (b ≡ Some d))
or-some None b d e = inr (refl, e)
or-some (Some x) b d e = inl e

pub unless-some : (b : Bool) (d e : Doubt) → unless b d ≡ Some e → (b ≡ false) × (d ≡ e)
unless-some true d e h = absurd (cc)
unless-some false d e h = (refl, cc)

unless-fails : (b : Bool) (d : Doubt) → (b ≡ true → ⊥) → unless b d ≡ Some d
unless-fails true d h = absurd (h refl)
unless-fails false d h = refl

mapped-some : (f : ℕ → Doubt) (o : Option ℕ) (e : Doubt) → option_map f o ≡ Some e → (x : ℕ) × (o ≡ Some x) × (f x ≡ e)
mapped-some f None e h = absurd (cc)
mapped-some f (Some x) e h = (x, refl, cc)

pub fails : (b : Bool) → b ≡ false → b ≡ true → ⊥
fails true f t = absurd (cc)
fails false f t = absurd (cc)

-- ---- exits

breaks-from : (w : State) → IsSound w → (form : Form) (m : Account) (x : ℕ)
    → breaks w form m x ≡ true → Breaks w form m x
breaks-from w sound form m x e =
    let test : Option Label → Bool = λ o. is_kept (hop_of form) o (label_at m (step_of w x).to) (step_of w x) in
    let p = and_parts (passable w m.player x) (not (test (label_behind w m x))) e in
    let source : (room : ℕ) × (source_of w x ≡ Some room) = open-source w m.player x p.0 in
    let kept : test (label_at m source.0) ≡ false =
    sym (ap (λ o. test (option_and_then (label_at m) o)) source.1) ∙ not-true (test (label_behind w m x)) p.1 in
    go source.0 (road-of w sound m.player source.0 x source.1 p.0) (label_at m source.0) refl kept
  where
    go : (room : ℕ) → Contains (roads_of w m.player room) (step_of w x) → (o : Option Label) → label_at m room ≡ o
        → is_kept (hop_of form) o (label_at m (step_of w x).to) (step_of w x) ≡ false → Breaks w form m x
    go room c None is f = absurd (cc)
    go room c (Some l) is f = record {
      room = room;
      label = l;
      step = step_of w x;
      labelled = is;
      is_passable = c;
      exit = step-exit w x;
      beyond = λ (r : Reaches (label_at m) (step_of w x).to (after (hop_of form) l (step_of w x))).
          let kept : is_kept (hop_of form) (Some l) (label_at m (step_of w x).to) (step_of w x) ≡ true =
          ap (λ o. is_kept (hop_of form) (Some l) o (step_of w x)) r.1
          ∙ at-most-to r.0 (after (hop_of form) l (step_of w x)) r.2 in
          fails (is_kept (hop_of form) (Some l) (label_at m (step_of w x).to) (step_of w x)) f kept;
    }

breaks-to : (w : State) → IsSound w → (form : Form) (m : Account) (x : ℕ) → Breaks w form m x → breaks w form m x ≡ true
breaks-to w sound form m x b = go (cases_Bool (breaks w form m b.step.exit))
  where
    go : (breaks w form m b.step.exit ≡ true) ⊎ (breaks w form m b.step.exit ≡ false) → breaks w form m x ≡ true
    go (inl t) = ap (breaks w form m) (sym b.exit) ∙ t
    go (inr f) = absurd (b.beyond (kept-by w sound form m b.room b.label b.step b.labelled b.is_passable f))

-- the lowest exit that breaks the labels
lowest-from : (w : State) → IsSound w → (form : Form) (m : Account) (x : ℕ)
    → find (breaks w form m) (numbers w) ≡ Some x
    → Breaks w form m x × ((y : ℕ) → Breaks w form m y → x ≤ y)
lowest-from w sound form m x e =
    let r = find-some (breaks w form m) 0 w.next x e in
    (breaks-from w sound form m x r.0, λ y b. go y b (r.1 y (omega arith)) (cases_lt y x))
  where
    go : (y : ℕ) → Breaks w form m y → (y < x → breaks w form m y ≡ false) → (y < x) ⊎ (x ≤ y) → x ≤ y
    go y b below (inl lt) = absurd (fails (breaks w form m y) (below lt) (breaks-to w sound form m y b))
    go y b below (inr le) = le

lowest-to : (w : State) → IsSound w → (form : Form) (m : Account) (x : ℕ) → Breaks w form m x
    → ((y : ℕ) → Breaks w form m y → x ≤ y)
    → find (breaks w form m) (numbers w) ≡ Some x
lowest-to w sound form m x b least = go (find (breaks w form m) (numbers w)) refl
  where
    numbered : Contains (numbers w) x
    numbered = subst (Contains (numbers w)) b.exit (road-at w sound m.player b.room b.step b.is_passable).numbered

    equal : (y : ℕ) → x ≤ y → (x < y → ⊥) → y ≡ x
    equal y le above = elim (cases_lt x y) as (λ s. y ≡ x) [ inl lt ↦ absurd (above lt) | inr ge ↦ omega arith ]

    go : (o : Option ℕ) → find (breaks w form m) (numbers w) ≡ o → o ≡ Some x
    go None e = absurd
        (fails (breaks w form m x) (find-none (breaks w form m) (numbers w) x e numbered)
        (breaks-to w sound form m x b))
    go (Some y) e =
        let r = find-some (breaks w form m) 0 w.next y e in
        ap Some (equal y (least y (breaks-from w sound form m y r.0))
        (λ lt. fails (breaks w form m x) (r.1 x (omega arith) lt) (breaks-to w sound form m x b)))

-- ---- a returned doubt holds

given-holds : (w : State) → IsSound w → (form : Form) (earlier : List Account) (m : Account) (d : Doubt)
    (o : Option (List ℕ)) → m.walk ≡ o
    → given_doubt w form m o ≡ Some d → Raises w form earlier m d
given-holds w sound form earlier m d None is e = absurd (cc)
given-holds w sound form earlier m d (Some walk) is e = go (or-some first (second or third) d e)
  where
    first : Option Doubt
    first = option_map (λ i. doubts.WalkBroken m.player i) (first_break w m.from 1 walk)

    second : Option Doubt
    second = option_map (λ i. doubts.WalkLocked m.player i) (first_lock w m.player 1 walk)

    labelled : Bool
    labelled = is_label (label_at m (end_of m.from (steps_of w walk))) (total (hop_of form) (steps_of w walk))

    third : Option Doubt
    third = unless labelled (doubts.WalkCost m.player)

    none : (f : ℕ → Doubt) (o : Option ℕ) → option_map f o ≡ None → o ≡ None
    none f None e = refl
    none f (Some x) e = absurd (cc)

    stated : (P : List ℕ → Type 0) → P walk → IsSomeAnd m.walk P
    stated P p = subst (λ (o : Option (List ℕ)). IsSomeAnd o P) (sym is) p

    last : (first ≡ None) → (second ≡ Some d) ⊎ ((second ≡ None) × (third ≡ Some d)) → Raises w form earlier m d
    last b (inl h) =
        let r = mapped-some (λ i. doubts.WalkLocked m.player i) (first_lock w m.player 1 walk) d h in
        subst (Raises w form earlier m) r.2 (
          refl,
          refl,
          stated (λ walk. FailsAt (λ k. All (λ x. passable w m.player x ≡ true) (take k walk)) r.0)
              (locked-from w m.player walk r.0 r.1),
        )
    last b (inr (l, h)) =
        let r = unless-some labelled (doubts.WalkCost m.player) d h in
        subst (Raises w form earlier m) r.1 (
          refl,
          refl,
          is-mislabelled w sound form m walk is
              (none (λ i. doubts.WalkBroken m.player i) (first_break w m.from 1 walk) b)
              (none (λ i. doubts.WalkLocked m.player i) (first_lock w m.player 1 walk) l) r.0,
        )

    go : (first ≡ Some d) ⊎ ((first ≡ None) × ((second or third) ≡ Some d)) → Raises w form earlier m d
    go (inl h) =
        let r = mapped-some (λ i. doubts.WalkBroken m.player i) (first_break w m.from 1 walk) d h in
        subst (Raises w form earlier m) r.2 (
          refl,
          refl,
          stated (λ walk. FailsAt (λ k. IsUnbroken w m.from (take k walk)) r.0)
              (broken-from w m.from walk r.0 r.1),
        )
    go (inr (b, h)) = last b (or-some second third d h)

pub member-holds : (w : State) → IsSound w → (form : Form) (earlier : List Account) (m : Account) (d : Doubt)
    → member_doubt w form earlier m ≡ Some d → Raises w form earlier m d
member-holds w sound form earlier m d e = one (or-some s1 (s2 or s3 or s4 or s5) d e)
  where
    s1 : Option Doubt
    s1 = unless (is_new w earlier m) (doubts.NoSuchPlayer m.player)

    s2 : Option Doubt
    s2 = unless (stands w m) (doubts.WrongStart m.player)

    s3 : Option Doubt
    s3 = unless (is_started w m) (doubts.StartLabel m.player)

    s4 : Option Doubt
    s4 = option_map (λ x. doubts.Arc m.player x) (find (breaks w form m) (numbers w))

    s5 : Option Doubt
    s5 = given_doubt w form m m.walk

    four : (s4 ≡ Some d) ⊎ ((s4 ≡ None) × (s5 ≡ Some d)) → Raises w form earlier m d
    four (inl h) =
        let r = mapped-some (λ x. doubts.Arc m.player x) (find (breaks w form m) (numbers w)) d h in
        let l = lowest-from w sound form m r.0 r.1 in
        subst (Raises w form earlier m) r.2 (refl, refl, l.0, l.1)
    four (inr h) = given-holds w sound form earlier m d m.walk refl h.1

    three : (s3 ≡ Some d) ⊎ ((s3 ≡ None) × ((s4 or s5) ≡ Some d)) → Raises w form earlier m d
    three (inl h) =
        let r = unless-some (is_started w m) (doubts.StartLabel m.player) d h in
        subst (Raises w form earlier m) r.1 (refl, refl, λ s. fails (is_started w m) r.0 (started-to w m s))
    three (inr h) = four (or-some s4 s5 d h.1)

    two : (s2 ≡ Some d) ⊎ ((s2 ≡ None) × ((s3 or s4 or s5) ≡ Some d)) → Raises w form earlier m d
    two (inl h) =
        let r = unless-some (stands w m) (doubts.WrongStart m.player) d h in
        subst (Raises w form earlier m) r.1 (
          refl,
          refl,
          λ (s : place_of w m.player ≡ Some m.from). fails (stands w m) r.0
              (ap (is_number m.from) s ∙ eq-eqb m.from m.from refl),
        )
    two (inr h) = three (or-some s3 (s4 or s5) d h.1)

    one : (s1 ≡ Some d) ⊎ ((s1 ≡ None) × ((s2 or s3 or s4 or s5) ≡ Some d)) → Raises w form earlier m d
    one (inl h) =
        let r = unless-some (is_new w earlier m) (doubts.NoSuchPlayer m.player) d h in
        subst (Raises w form earlier m) r.1 (refl, refl, λ n. fails (is_new w earlier m) r.0 (new-to w earlier m n))
    one (inr h) = two (or-some s2 (s3 or s4 or s5) d h.1)

-- ---- a doubt that holds is returned by its own test

abbrev broken-doubt : State → Account → Option (List ℕ) → Option Doubt
broken-doubt w m o =
    option_and_then (λ walk. option_map (λ i. doubts.WalkBroken m.player i) (first_break w m.from 1 walk)) o

abbrev locked-doubt : State → Account → Option (List ℕ) → Option Doubt
locked-doubt w m o =
    option_and_then (λ walk. option_map (λ i. doubts.WalkLocked m.player i) (first_lock w m.player 1 walk)) o

abbrev cost-doubt : State → Form → Account → Option (List ℕ) → Option Doubt
cost-doubt w form m o = option_and_then
    (λ walk. unless (is_label (label_at m (end_of m.from (steps_of w walk))) (total (hop_of form) (steps_of w walk)))
    (doubts.WalkCost m.player)) o

given-is : (w : State) (form : Form) (m : Account) (o : Option (List ℕ))
    → given_doubt w form m o ≡ (broken-doubt w m o or locked-doubt w m o or cost-doubt w form m o)
given-is w form m None = refl
given-is w form m (Some walk) = refl

-- the tests by their numbers
abbrev test-of : State → Form → List Account → Account → ℕ → Option Doubt
test-of w form earlier m zero = None
test-of w form earlier m (suc zero) = unless (is_new w earlier m) (doubts.NoSuchPlayer m.player)
test-of w form earlier m (suc (suc zero)) = unless (stands w m) (doubts.WrongStart m.player)
test-of w form earlier m (suc (suc (suc zero))) = unless (is_started w m) (doubts.StartLabel m.player)
test-of w form earlier m (suc (suc (suc (suc zero)))) =
    option_map (λ x. doubts.Arc m.player x) (find (breaks w form m) (numbers w))
test-of w form earlier m (suc (suc (suc (suc (suc zero))))) = broken-doubt w m m.walk
test-of w form earlier m (suc (suc (suc (suc (suc (suc zero)))))) = locked-doubt w m m.walk
test-of w form earlier m (suc (suc (suc (suc (suc (suc (suc n))))))) = cost-doubt w form m m.walk

stands-from : (w : State) (m : Account) → stands w m ≡ true → place_of w m.player ≡ Some m.from
stands-from w m e = placed (place_of w m.player) m.from e

broken-given : (w : State) (m : Account) (at : ℕ) (o : Option (List ℕ))
    → IsSomeAnd o (λ walk. FailsAt (λ k. IsUnbroken w m.from (take k walk)) at)
    → broken-doubt w m o ≡ Some (doubts.WalkBroken m.player at)
broken-given w m at None h = absurd h
broken-given w m at (Some walk) h =
    ap (λ o. option_map (λ i. doubts.WalkBroken m.player i) o) (broken-to w m.from walk at h)

locked-given : (w : State) (m : Account) (at : ℕ) (o : Option (List ℕ))
    → IsSomeAnd o (λ walk. FailsAt (λ k. All (λ x. passable w m.player x ≡ true) (take k walk)) at)
    → locked-doubt w m o ≡ Some (doubts.WalkLocked m.player at)
locked-given w m at None h = absurd h
locked-given w m at (Some walk) h =
    ap (λ o. option_map (λ i. doubts.WalkLocked m.player i) o) (locked-to w m.player walk at h)

cost-given : (w : State) → IsSound w → (form : Form) (m : Account) (o : Option (List ℕ)) → m.walk ≡ o
    → IsMislabelled w form m → cost-doubt w form m o ≡ Some (doubts.WalkCost m.player)
cost-given w sound form m None given (to, ss, states, other) =
    absurd (let bad : None ≡ Some (exits_of ss) = sym given ∙ states.stated in cc)
cost-given w sound form m (Some walk) given h =
    unless-fails (is_label (label_at m (end_of m.from (steps_of w walk))) (total (hop_of form) (steps_of w walk)))
    (doubts.WalkCost m.player) (mislabelled-fails w sound form m walk given h)

pub tested : (w : State) → IsSound w → (form : Form) (earlier : List Account) (m : Account) (d : Doubt)
    → Raises w form earlier m d → test-of w form earlier m (rank d) ≡ Some d
tested w sound form earlier m (doubts.NoSuchPlayer p) h =
    unless-fails (is_new w earlier m) (doubts.NoSuchPlayer m.player) (λ t. h.2 (new-from w earlier m t))
    ∙ ap (λ q. Some (doubts.NoSuchPlayer q)) (sym h.1)
tested w sound form earlier m (doubts.WrongStart p) h =
    unless-fails (stands w m) (doubts.WrongStart m.player) (λ t. h.2 (stands-from w m t))
    ∙ ap (λ q. Some (doubts.WrongStart q)) (sym h.1)
tested w sound form earlier m (doubts.StartLabel p) h =
    unless-fails (is_started w m) (doubts.StartLabel m.player) (λ t. h.2 (started-from w m t))
    ∙ ap (λ q. Some (doubts.StartLabel q)) (sym h.1)
tested w sound form earlier m (doubts.Arc p x) h =
    ap (λ o. option_map (λ y. doubts.Arc m.player y) o) (lowest-to w sound form m x h.2 h.3)
    ∙ ap (λ q. Some (doubts.Arc q x)) (sym h.1)
tested w sound form earlier m (doubts.WalkBroken p at) h =
    broken-given w m at m.walk h.2 ∙ ap (λ q. Some (doubts.WalkBroken q at)) (sym h.1)
tested w sound form earlier m (doubts.WalkLocked p at) h =
    locked-given w m at m.walk h.2 ∙ ap (λ q. Some (doubts.WalkLocked q at)) (sym h.1)
tested w sound form earlier m (doubts.WalkCost p) h =
    cost-given w sound form m m.walk refl h.2 ∙ ap (λ q. Some (doubts.WalkCost q)) (sym h.1)
tested w sound form earlier m doubts.Conclusion h = absurd h
tested w sound form earlier m doubts.OutOfMemory h = absurd h

-- at most one doubt of each rank holds for a member
pub one-of : (w : State) → IsSound w → (form : Form) (earlier : List Account) (m : Account) (d e : Doubt)
    → Raises w form earlier m d → Raises w form earlier m e → rank d ≡ rank e → d ≡ e
one-of w sound form earlier m d e h k same =
    let both : Some d ≡ Some e = sym (tested w sound form earlier m d h) ∙ ap (test-of w form earlier m) same
    ∙ tested w sound form earlier m e k in
    cc

-- ---- no doubt with a lower rank than the returned one holds

-- the rank of a result, above all ranks if there is no doubt
abbrev pub top : Option Doubt → ℕ
top None = 9
top (Some d) = rank d

past : (a b : Option Doubt) (n : ℕ) → top a ≤ n ⊎ (a ≡ None) → top b ≤ n → top (a or b) ≤ n
past None b n h le = le
past (Some d) b n (inl low) le = low
past (Some d) b n (inr e) le = absurd (cc)

here : (a b : Option Doubt) (d : Doubt) → a ≡ Some d → top (a or b) ≤ rank d
here None b d e = absurd (cc)
here (Some x) b d e = let same : x ≡ d = cc in let le : rank x ≡ rank d = ap rank same in omega (arith, le)

low-unless : (b : Bool) (d : Doubt) (n : ℕ) → rank d ≤ n → (top (unless b d) ≤ n) ⊎ (unless b d ≡ None)
low-unless true d n le = inr refl
low-unless false d n le = inl le

low-mapped : (f : ℕ → Doubt) (o : Option ℕ) (n : ℕ) → ((x : ℕ) → rank (f x) ≤ n)
    → (top (option_map f o) ≤ n) ⊎ (option_map f o ≡ None)
low-mapped f None n le = inr refl
low-mapped f (Some x) n le = inl (le x)

low-broken : (w : State) (m : Account) (o : Option (List ℕ)) (n : ℕ) → 5 ≤ n → (top (broken-doubt w m o) ≤ n)
    ⊎ (broken-doubt w m o ≡ None)
low-broken w m None n le = inr refl
low-broken w m (Some walk) n le =
    low-mapped (λ i. doubts.WalkBroken m.player i) (first_break w m.from 1 walk) n (λ x. le)

low-locked : (w : State) (m : Account) (o : Option (List ℕ)) (n : ℕ) → 6 ≤ n → (top (locked-doubt w m o) ≤ n)
    ⊎ (locked-doubt w m o ≡ None)
low-locked w m None n le = inr refl
low-locked w m (Some walk) n le =
    low-mapped (λ i. doubts.WalkLocked m.player i) (first_lock w m.player 1 walk) n (λ x. le)

here-last : (a : Option Doubt) (d : Doubt) → a ≡ Some d → top a ≤ rank d
here-last None d e = absurd (cc)
here-last (Some x) d e = let same : x ≡ d = cc in let le : rank x ≡ rank d = ap rank same in omega (arith, le)

pub reached : (w : State) → IsSound w → (form : Form) (earlier : List Account) (m : Account) (d : Doubt)
    → Raises w form earlier m d → top (member_doubt w form earlier m) ≤ rank d
reached w sound form earlier m d h = go d h
  where
    t1 : Option Doubt
    t1 = unless (is_new w earlier m) (doubts.NoSuchPlayer m.player)

    t2 : Option Doubt
    t2 = unless (stands w m) (doubts.WrongStart m.player)

    t3 : Option Doubt
    t3 = unless (is_started w m) (doubts.StartLabel m.player)

    t4 : Option Doubt
    t4 = option_map (λ x. doubts.Arc m.player x) (find (breaks w form m) (numbers w))

    t5 : Option Doubt
    t5 = broken-doubt w m m.walk

    t6 : Option Doubt
    t6 = locked-doubt w m m.walk

    t7 : Option Doubt
    t7 = cost-doubt w form m m.walk

    given : Option Doubt
    given = given_doubt w form m m.walk

    p1 : (n : ℕ) → 1 ≤ n → top (t2 or t3 or t4 or given) ≤ n → top (t1 or t2 or t3 or t4 or given) ≤ n
    p1 n le r = past t1 (t2 or t3 or t4 or given) n
        (low-unless (is_new w earlier m) (doubts.NoSuchPlayer m.player) n le) r

    p2 : (n : ℕ) → 2 ≤ n → top (t3 or t4 or given) ≤ n → top (t1 or t2 or t3 or t4 or given) ≤ n
    p2 n le r = p1 n (omega arith)
        (past t2 (t3 or t4 or given) n (low-unless (stands w m) (doubts.WrongStart m.player) n le) r)

    p3 : (n : ℕ) → 3 ≤ n → top (t4 or given) ≤ n → top (t1 or t2 or t3 or t4 or given) ≤ n
    p3 n le r = p2 n (omega arith)
        (past t3 (t4 or given) n (low-unless (is_started w m) (doubts.StartLabel m.player) n le) r)

    p4 : (n : ℕ) → 4 ≤ n → top (t5 or t6 or t7) ≤ n → top (t1 or t2 or t3 or t4 or given) ≤ n
    p4 n le r =
        let last : top given ≤ n = subst (λ (o : Option Doubt). top o ≤ n) (sym (given-is w form m m.walk)) r in
        p3 n (omega arith)
        (past t4 given n
        (low-mapped (λ x. doubts.Arc m.player x) (find (breaks w form m) (numbers w)) n (λ x. le)) last)

    p5 : (n : ℕ) → 5 ≤ n → top (t6 or t7) ≤ n → top (t1 or t2 or t3 or t4 or given) ≤ n
    p5 n le r = p4 n (omega arith) (past t5 (t6 or t7) n (low-broken w m m.walk n le) r)

    p6 : (n : ℕ) → 6 ≤ n → top t7 ≤ n → top (t1 or t2 or t3 or t4 or given) ≤ n
    p6 n le r = p5 n (omega arith) (past t6 t7 n (low-locked w m m.walk n le) r)

    go : (d : Doubt) → Raises w form earlier m d → top (t1 or t2 or t3 or t4 or given) ≤ rank d
    go (doubts.NoSuchPlayer p) k = here t1 (t2 or t3 or t4 or given) (doubts.NoSuchPlayer p)
        (tested w sound form earlier m (doubts.NoSuchPlayer p) k)
    go (doubts.WrongStart p) k = p1 2 (omega arith)
        (here t2 (t3 or t4 or given) (doubts.WrongStart p) (tested w sound form earlier m (doubts.WrongStart p) k))
    go (doubts.StartLabel p) k = p2 3 (omega arith)
        (here t3 (t4 or given) (doubts.StartLabel p) (tested w sound form earlier m (doubts.StartLabel p) k))
    go (doubts.Arc p x) k =
        p3 4 (omega arith) (here t4 given (doubts.Arc p x) (tested w sound form earlier m (doubts.Arc p x) k))
    go (doubts.WalkBroken p at) k = p4 5 (omega arith)
        (here t5 (t6 or t7) (doubts.WalkBroken p at) (tested w sound form earlier m (doubts.WalkBroken p at) k))
    go (doubts.WalkLocked p at) k = p5 6 (omega arith)
        (here t6 t7 (doubts.WalkLocked p at) (tested w sound form earlier m (doubts.WalkLocked p at) k))
    go (doubts.WalkCost p) k =
        p6 7 (omega arith) (here-last t7 (doubts.WalkCost p) (tested w sound form earlier m (doubts.WalkCost p) k))
    go doubts.Conclusion k = absurd k
    go doubts.OutOfMemory k = absurd k

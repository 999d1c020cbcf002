-- A member without doubts, in both directions.
use Rattle.std.proofs.Common.{◌≡◌, ℕ, ◌+◌, ◌<◌, ◌≤◌, ◌⊎◌, inl, inr, List, [], ◌∷◌, map, Option, None, Some, Bool, true}
use Rattle.std.proofs.Common.{false, not, ◌&&◌, cond, refl, sym, ◌∙◌, ap, arith, eqb, leb, ltb}
use Rattle.std.specs.Prelude.{Contains, option_map, option_and_then}
use Rattle.std.specs.List.{find}
use Rattle.std.proofs.lemmas.Bool.{and_parts, and_from, and_left, or_cases, or_left, or_right, eqb-true, eq-eqb}
use Rattle.std.proofs.lemmas.Bool.{ltb-true, lt-ltb, leb-true, le-leb, not-false, not_from_true, cases_lt, false≢true}
use Rattle.std.proofs.lemmas.Bool.{cond-true}
use Rattle.mud_roads.specs.declared.label.Label.{Label}
use Rattle.mud_roads.specs.declared.label.Step.{Step}
use Rattle.mud_world.specs.State.{State, source_of}
use Rattle.mud_world.specs.Sound.{IsSound}
use Rattle.mud_roads.specs.Passable.{passable, roads_of}
use Rattle.mud_roads.specs.Labels.{Reaches, AreValid}
use Rattle.mud_roads.specs.Walks.{Walk, AtMost, after}
use Rattle.mud_roads.proofs.Routes.{label-ext}
use Rattle.mud_cert.specs.declared.cert.Form.{Form}
use Rattle.mud_cert.specs.Certificate.{Account, hop_of}
use Rattle.mud_cert.specs.declared.doubt.Doubt.{Doubt}
use Rattle.mud_cert.specs.Lookup.{label_at}
use Rattle.mud_cert.specs.inner.Ways.{step_of, end_of, steps_of}
use Rattle.mud_cert.specs.inner.Tests.{is_at_most, is_label, leaves, first_break, first_lock, ◌or◌, unless, numbers}
use Rattle.mud_cert.specs.inner.Tests.{is_kept}
use Rattle.mud_cert.specs.inner.Tests.{label_behind, breaks}
use Rattle.mud_cert.proofs.Finds.{find-none, find-none-from}
use Rattle.mud_cert.proofs.Ways.{IsWay, road-at, road-of, road-to, open-source}

-- doubts in turn
pub or-none : (a b : Option Doubt) → (a or b) ≡ None → (a ≡ None) × (b ≡ None)
or-none None b e = (refl, e)
or-none (Some d) b e = absurd (cc)

pub or-both : (a b : Option Doubt) → a ≡ None → b ≡ None → (a or b) ≡ None
or-both a b p q = ap (λ x. x or b) p ∙ q

pub unless-none : (b : Bool) (d : Doubt) → unless b d ≡ None → b ≡ true
unless-none true d e = refl
unless-none false d e = absurd (cc)

pub unless-from : (b : Bool) (d : Doubt) → b ≡ true → unless b d ≡ None
unless-from b d e = ap (λ x. unless x d) e

pub option-none : (f : ℕ → Doubt) (o : Option ℕ) → option_map f o ≡ None → o ≡ None
option-none f None e = refl
option-none f (Some x) e = absurd (cc)

guard : (b : Bool) (o : Option ℕ) (i : ℕ) → cond b o (Some i) ≡ None → (b ≡ true) × (o ≡ None)
guard true o i e = (refl, e)
guard false o i e = absurd (cc)

-- walks
pub walk-from : (w : State) → IsSound w → (p at i j : ℕ) (xs : List ℕ) → first_break w at i xs ≡ None
    → first_lock w p j xs ≡ None → Walk (roads_of w p) at (steps_of w xs) (end_of at (steps_of w xs))
walk-from w sound p at i j [] b l = refl
walk-from w sound p at i j (x ∷ xs) b l =
    let one : (leaves w at x ≡ true) × (first_break w (step_of w x).to (i + 1) xs ≡ None) =
    guard (leaves w at x) (first_break w (step_of w x).to (i + 1) xs) i b in
    let two : (passable w p x ≡ true) × (first_lock w p (j + 1) xs ≡ None) =
    guard (passable w p x) (first_lock w p (j + 1) xs) j l in
    (road-to w sound p at x one.0 two.0, walk-from w sound p (step_of w x).to (i + 1) (j + 1) xs one.1 two.1)

pub record IsTaken (w : State) (p at to i j : ℕ) (ss : List Step) : Type 0 where
  pub unbroken : first_break w at i (map (λ (s : Step). s.exit) ss) ≡ None
  pub unlocked : first_lock w p j (map (λ (s : Step). s.exit) ss) ≡ None
  pub same : steps_of w (map (λ (s : Step). s.exit) ss) ≡ ss
  pub ends : end_of at ss ≡ to

pub walk-to : (w : State) → IsSound w → (p at to i j : ℕ) (ss : List Step)
    → Walk (roads_of w p) at ss to → IsTaken w p at to i j ss
walk-to w sound p at to i j [] e = record { unbroken = refl; unlocked = refl; same = refl; ends = e }
walk-to w sound p at to i j (s ∷ ss) (c, k) =
    let r : IsWay w p at s = road-at w sound p at s c in
    let rest : IsTaken w p s.to to (i + 1) (j + 1) ss = walk-to w sound p s.to to (i + 1) (j + 1) ss k in
    let xs : List ℕ = map (λ (q : Step). q.exit) ss in
    record {
      unbroken = cond-true (leaves w at s.exit) (first_break w (step_of w s.exit).to (i + 1) xs) (Some i) r.leaves
          ∙ ap (λ (q : Step). first_break w q.to (i + 1) xs) r.is ∙ rest.unbroken;
      unlocked = cond-true (passable w p s.exit) (first_lock w p (j + 1) xs) (Some j) r.is_passable ∙ rest.unlocked;
      same = ap (λ (q : Step). q ∷ steps_of w xs) r.is ∙ ap (λ (qs : List Step). s ∷ qs) rest.same;
      ends = rest.ends;
    }

-- labels
pub label-is : (o : Option Label) (l : Label) → is_label o l ≡ true → o ≡ Some l
label-is None l e = absurd (false≢true e)
label-is (Some k) l e =
    let parts : (eqb k.cost l.cost ≡ true) × (eqb k.exits l.exits ≡ true) =
    and_parts (eqb k.cost l.cost) (eqb k.exits l.exits) e in
    ap Some (label-ext k l (eqb-true k.cost l.cost parts.0) (eqb-true k.exits l.exits parts.1))

pub is-label : (o : Option Label) (l : Label) → o ≡ Some l → is_label o l ≡ true
is-label o l e = ap (λ x. is_label x l) e ∙ and_from (eqb l.cost l.cost) (eqb l.exits l.exits)
    (eq-eqb l.cost l.cost refl) (eq-eqb l.exits l.exits refl)

pub at-most-from : (a b : Label) → is_at_most a b ≡ true → AtMost a b
at-most-from a b e = go (or_cases (ltb a.cost b.cost) (eqb a.cost b.cost && leb a.exits b.exits) e)
  where
    go : (ltb a.cost b.cost ≡ true) ⊎ ((eqb a.cost b.cost && leb a.exits b.exits) ≡ true) → AtMost a b
    go (inl h) = let lt : a.cost < b.cost = ltb-true a.cost b.cost h in (omega arith, λ f. omega arith)
    go (inr h) =
        let parts : (eqb a.cost b.cost ≡ true) × (leb a.exits b.exits ≡ true) =
        and_parts (eqb a.cost b.cost) (leb a.exits b.exits) h in
        let same : a.cost ≡ b.cost = eqb-true a.cost b.cost parts.0 in
        let le : a.exits ≤ b.exits = leb-true a.exits b.exits parts.1 in
        (omega arith, λ f. le)

pub at-most-to : (a b : Label) → AtMost a b → is_at_most a b ≡ true
at-most-to a b p = go (cases_lt a.cost b.cost)
  where
    go : (a.cost < b.cost) ⊎ (b.cost ≤ a.cost) → is_at_most a b ≡ true
    go (inl h) = or_left (ltb a.cost b.cost) (eqb a.cost b.cost && leb a.exits b.exits) (lt-ltb a.cost b.cost h)
    go (inr h) =
        let same : a.cost ≡ b.cost = omega (arith, p.0) in
        or_right (ltb a.cost b.cost) (eqb a.cost b.cost && leb a.exits b.exits)
        (and_from (eqb a.cost b.cost) (leb a.exits b.exits) (eq-eqb a.cost b.cost same)
        (le-leb a.exits b.exits (p.1 same)))

kept-some : (hop : ℕ) (l : Label) (o : Option Label) (s : Step) → is_kept hop (Some l) o s ≡ true
    → (k : Label) × (o ≡ Some k) × AtMost k (after hop l s)
kept-some hop l None s e = absurd (false≢true e)
kept-some hop l (Some k) s e = (k, refl, at-most-from k (after hop l s) e)

and-then : (a b : Bool) → a ≡ true → (a && b) ≡ false → b ≡ false
and-then true b e f = f
and-then false b e f = absurd (false≢true e)

-- an exit that breaks nothing leads to a label that is at most the label after the step
pub kept-by : (w : State) → IsSound w → (form : Form) (m : Account) (room : ℕ) (l : Label) (s : Step)
    → label_at m room ≡ Some l → Contains (roads_of w m.player room) s → breaks w form m s.exit ≡ false
    → Reaches (label_at m) s.to (after (hop_of form) l s)
kept-by w sound form m room l s e c fails =
    let r : IsWay w m.player room s = road-at w sound m.player room s c in
    let hop : ℕ = hop_of form in
    let test : Bool = is_kept hop (label_behind w m s.exit) (label_at m (step_of w s.exit).to) (step_of w s.exit) in
    let kept : test ≡ true = not-false test (and-then (passable w m.player s.exit) (not test) r.is_passable fails) in
    let whole : is_kept hop (Some l) (label_at m s.to) s ≡ true =
    sym (ap (λ (q : Step). is_kept hop (label_behind w m s.exit) (label_at m q.to) q) r.is
    ∙ ap (λ o. is_kept hop (option_and_then (label_at m) o) (label_at m s.to) s) r.source
    ∙ ap (λ o. is_kept hop o (label_at m s.to) s) e) ∙ kept in
    kept-some hop l (label_at m s.to) s whole

-- the labels are valid exactly if no exit breaks them
pub steps-from : (w : State) → IsSound w → (form : Form) (m : Account) → find (breaks w form m) (numbers w) ≡ None
    → (room : ℕ) (l : Label) (s : Step) → label_at m room ≡ Some l → Contains (roads_of w m.player room) s
    → Reaches (label_at m) s.to (after (hop_of form) l s)
steps-from w sound form m none room l s e c =
    kept-by w sound form m room l s e c
    (find-none (breaks w form m) (numbers w) s.exit none (road-at w sound m.player room s c).numbered)

pub steps-to : (w : State) → IsSound w → (form : Form) (m : Account)
    → AreValid (hop_of form) (roads_of w m.player) m.from (label_at m) → find (breaks w form m) (numbers w) ≡ None
steps-to w sound form m v = find-none-from (breaks w form m) (numbers w) (λ x c. go x (passable w m.player x) refl)
  where
    kept : (x room : ℕ) → Contains (roads_of w m.player room) (step_of w x) → (o : Option Label) → label_at m room ≡ o
        → is_kept (hop_of form) o (label_at m (step_of w x).to) (step_of w x) ≡ true
    kept x room c None e = refl
    kept x room c (Some l) e =
        let r : Reaches (label_at m) (step_of w x).to (after (hop_of form) l (step_of w x)) =
        v.steps room l (step_of w x) e c in
        ap (λ o. is_kept (hop_of form) (Some l) o (step_of w x)) r.1
        ∙ at-most-to r.0 (after (hop_of form) l (step_of w x)) r.2

    go : (x : ℕ) (b : Bool) → passable w m.player x ≡ b → breaks w form m x ≡ false
    go x false e = and_left (passable w m.player x)
        (not (is_kept (hop_of form) (label_behind w m x) (label_at m (step_of w x).to) (step_of w x))) e
    go x true e =
        let test : Bool = is_kept (hop_of form) (label_behind w m x) (label_at m (step_of w x).to) (step_of w x) in
        let source : (room : ℕ) × (source_of w x ≡ Some room) = open-source w m.player x e in
        let c : Contains (roads_of w m.player source.0) (step_of w x) =
        road-of w sound m.player source.0 x source.1 e in
        let is : test ≡ true =
        ap (λ o. is_kept (hop_of form) (option_and_then (label_at m) o) (label_at m (step_of w x).to) (step_of w x))
        source.1
        ∙ kept x source.0 c (label_at m source.0) refl in
        ap (λ b. b && not test) e ∙ not_from_true test is

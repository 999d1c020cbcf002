-- The doubts of a walk: the results of its tests, in both directions.
use Rattle.std.proofs.Common.{◌≡◌, ◌≢◌, ℕ, ◌+◌, zero, suc, List, [], ◌∷◌, take, All, Option, None, Some, true, false}
use Rattle.std.proofs.Common.{◌⊎◌, inl, inr, refl, sym, ◌∙◌, ap, subst, arith}
use Rattle.std.specs.Option.{option_map, option_map_or}
use Rattle.std.proofs.lemmas.Bool.{cond-true, cond-false, cases_Bool, eq-eqb}
use Rattle.std.proofs.lemmas.List.Elements.{All-nil, All-cons, All-head, All-tail}
use Rattle.mud_world.specs.declared.record.Passage.{Passage}
use Rattle.mud_world.specs.State.{State, passage_of, source_of, is_number}
use Rattle.mud_world.specs.Sound.{IsSound}
use Rattle.mud_roads.specs.declared.label.Step.{Step}
use Rattle.mud_roads.specs.Passable.{passable, step_by}
use Rattle.mud_roads.specs.Walks.{total}
use Rattle.mud_cert.specs.declared.cert.Form.{Form}
use Rattle.mud_cert.specs.Certificate.{Account, hop_of}
use Rattle.mud_cert.specs.Lookup.{label_at}
use Rattle.mud_cert.specs.inner.Ways.{step_of, steps_of, end_of}
use Rattle.mud_cert.specs.inner.Tests.{is_label, leaves, first_break, first_lock}
use Rattle.mud_cert.specs.Valid.{States}
use Rattle.mud_world.specs.FirstFailure.{FailsAt}
use Rattle.mud_cert.specs.Doubts.{IsUnbroken}
use Rattle.mud_cert.proofs.Ways.{source-passage, leaves-source}
use Rattle.mud_cert.proofs.Doubtless.{walk-from, label-is, is-label}
use Rattle.mud_cert.proofs.Members.{named, stated-steps, stated-end}

-- an exit with this source leaves its room
leaves-to : (w : State) (room x : ℕ) → source_of w x ≡ Some room → leaves w room x ≡ true
leaves-to w room x e = ap (is_number room) e ∙ eq-eqb room room refl

-- the step of an exit leads to its destination
step-leads : (w : State) (x : ℕ) (a : Passage) → passage_of w x ≡ Some a → (step_of w x).to ≡ a.destination
step-leads w x a e =
    ap (λ (o : Option Passage). (option_map_or (step_by x) o (record { exit = x; to = 0; cost = 0 })).to) e

source-of : (w : State) (x : ℕ) (a : Passage) → passage_of w x ≡ Some a → source_of w x ≡ Some a.source
source-of w x a e = ap (option_map (λ (q : Passage). q.source)) e

-- one fails after this many that pass; the test counts from any number on
record Fails (IsSo : List ℕ → Type 0) (walk : List ℕ) (first place : ℕ) : Type 0 where
  count : ℕ
  number : place ≡ count + first
  so : IsSo (take count walk)
  fails : IsSo (take (suc count) walk) → ⊥

-- ---- an exit that does not leave the room where the walk has arrived

broken-some : (w : State) (from : ℕ) (walk : List ℕ) (first place : ℕ) → first_break w from first walk ≡ Some place
    → Fails (IsUnbroken w from) walk first place
broken-some w from [] first place e = absurd (cc)
broken-some w from (x ∷ xs) first place e =
    go (cases_Bool (leaves w from x)) (broken-some w (step_of w x).to xs (first + 1) place)
  where
    go : (leaves w from x ≡ true) ⊎ (leaves w from x ≡ false)
        → (first_break w (step_of w x).to (first + 1) xs ≡ Some place
        → Fails (IsUnbroken w (step_of w x).to) xs (first + 1) place)
        → Fails (IsUnbroken w from) (x ∷ xs) first place
    go (inl t) more =
        let r = more
        (sym (cond-true (leaves w from x) (first_break w (step_of w x).to (first + 1) xs) (Some first) t) ∙ e) in
        let q : (a : Passage) × (passage_of w x ≡ Some a) × (a.source ≡ from) =
        source-passage w from x (leaves-source w from x t) in
        record {
          count = suc r.count;
          number = omega (arith, r.number);
          so = (q.0, q.1, q.2, subst (λ n. IsUnbroken w n (take r.count xs)) (step-leads w x q.0 q.1) r.so);
          fails = λ (a, is, source, rest). r.fails
              (subst (λ n. IsUnbroken w n (take (suc r.count) xs)) (sym (step-leads w x a is)) rest);
        }
    go (inr f) more =
        let found : Some first ≡ Some place =
        sym (cond-false (leaves w from x) (first_break w (step_of w x).to (first + 1) xs) (Some first) f) ∙ e in
        let same : first ≡ place = cc in
        record {
          count = 0;
          number = omega (arith, same);
          so = tt;
          fails = λ (a, is, source, rest).
              let bad : false ≡ true = sym f ∙ leaves-to w from x (source-of w x a is ∙ ap Some source) in
              absurd (cc);
        }

broken-is : (w : State) (from : ℕ) (walk : List ℕ) (first n : ℕ) → IsUnbroken w from (take n walk)
    → (IsUnbroken w from (take (suc n) walk) → ⊥)
    → first_break w from first walk ≡ Some (n + first)
broken-is w from [] first zero so fails = absurd (fails tt)
broken-is w from [] first (suc n) so fails = absurd (fails tt)
broken-is w from (x ∷ xs) first zero so fails = go (cases_Bool (leaves w from x))
  where
    go : (leaves w from x ≡ true) ⊎ (leaves w from x ≡ false) → first_break w from first (x ∷ xs) ≡ Some (0 + first)
    go (inl t) = let q = source-passage w from x (leaves-source w from x t) in absurd (fails (q.0, q.1, q.2, tt))
    go (inr f) =
        let count : first ≡ 0 + first = omega arith in
        cond-false (leaves w from x) (first_break w (step_of w x).to (first + 1) xs) (Some first) f ∙ ap Some count
broken-is w from (x ∷ xs) first (suc n) (a, e, source, so) fails =
    let goes : leaves w from x ≡ true = leaves-to w from x (source-of w x a e ∙ ap Some source) in
    let more = broken-is w a.destination xs (first + 1) n so (λ rest. fails (a, e, source, rest)) in
    let count : n + (first + 1) ≡ suc n + first = omega arith in
    cond-true (leaves w from x) (first_break w (step_of w x).to (first + 1) xs) (Some first) goes
    ∙ ap (λ room. first_break w room (first + 1) xs) (step-leads w x a e) ∙ more ∙ ap Some count

-- ---- an exit that is not open

locked-some : (w : State) (p : ℕ) (walk : List ℕ) (first place : ℕ) → first_lock w p first walk ≡ Some place
    → Fails (All (λ x. passable w p x ≡ true)) walk first place
locked-some w p [] first place e = absurd (cc)
locked-some w p (x ∷ xs) first place e = go (cases_Bool (passable w p x)) (locked-some w p xs (first + 1) place)
  where
    P : ℕ → Type 0
    P n = passable w p n ≡ true

    go : (passable w p x ≡ true) ⊎ (passable w p x ≡ false)
        → (first_lock w p (first + 1) xs ≡ Some place → Fails (All P) xs (first + 1) place)
        → Fails (All P) (x ∷ xs) first place
    go (inl t) more =
        let r = more (sym (cond-true (passable w p x) (first_lock w p (first + 1) xs) (Some first) t) ∙ e) in
        record {
          count = suc r.count;
          number = omega (arith, r.number);
          so = All-cons P x (take r.count xs) t r.so;
          fails = λ all. r.fails (All-tail P x (take (suc r.count) xs) all);
        }
    go (inr f) more =
        let found : Some first ≡ Some place =
        sym (cond-false (passable w p x) (first_lock w p (first + 1) xs) (Some first) f) ∙ e in
        let same : first ≡ place = cc in
        record {
          count = 0;
          number = omega (arith, same);
          so = All-nil P;
          fails = λ all. let bad : false ≡ true = sym f ∙ All-head P x [] all in absurd (cc);
        }

locked-is : (w : State) (p : ℕ) (walk : List ℕ) (first n : ℕ) → All (λ x. passable w p x ≡ true) (take n walk)
    → (All (λ x. passable w p x ≡ true) (take (suc n) walk) → ⊥)
    → first_lock w p first walk ≡ Some (n + first)
locked-is w p [] first zero so fails = absurd (fails so)
locked-is w p [] first (suc n) so fails = absurd (fails so)
locked-is w p (x ∷ xs) first zero so fails = go (cases_Bool (passable w p x))
  where
    go : (passable w p x ≡ true) ⊎ (passable w p x ≡ false) → first_lock w p first (x ∷ xs) ≡ Some (0 + first)
    go (inl t) = let P : ℕ → Type 0 = λ n. passable w p n ≡ true in absurd (fails (All-cons P x [] t (All-nil P)))
    go (inr f) =
        let count : first ≡ 0 + first = omega arith in
        cond-false (passable w p x) (first_lock w p (first + 1) xs) (Some first) f ∙ ap Some count
locked-is w p (x ∷ xs) first (suc n) so fails =
    let P : ℕ → Type 0 = λ n. passable w p n ≡ true in
    let t : P x = All-head P x (take n xs) so in
    let count : n + (first + 1) ≡ suc n + first = omega arith in
    cond-true (passable w p x) (first_lock w p (first + 1) xs) (Some first) t
    ∙ locked-is w p xs (first + 1) n (All-tail P x (take n xs) so)
    (λ rest. fails (All-cons P x (take (suc n) xs) t rest)) ∙ ap Some count

-- ---- as they are stated

stated : (IsSo : List ℕ → Type 0) (walk : List ℕ) (place : ℕ) → Fails IsSo walk 1 place
    → FailsAt (λ k. IsSo (take k walk)) place
stated IsSo walk place r =
    let next : place ≡ suc r.count = omega (arith, r.number) in
    (r.count, r.number, r.so, λ so. r.fails (subst (λ n. IsSo (take n walk)) next so))

pub broken-from : (w : State) (from : ℕ) (walk : List ℕ) (place : ℕ) → first_break w from 1 walk ≡ Some place
    → FailsAt (λ k. IsUnbroken w from (take k walk)) place
broken-from w from walk place e = stated (IsUnbroken w from) walk place (broken-some w from walk 1 place e)

pub broken-to : (w : State) (from : ℕ) (walk : List ℕ) (place : ℕ)
    → FailsAt (λ k. IsUnbroken w from (take k walk)) place → first_break w from 1 walk ≡ Some place
broken-to w from walk place (n, is, so, fails) =
    let next : suc n ≡ place = omega (arith, is) in
    broken-is w from walk 1 n so (λ rest. fails (subst (λ k. IsUnbroken w from (take k walk)) next rest))
    ∙ ap Some (sym is)

pub locked-from : (w : State) (p : ℕ) (walk : List ℕ) (place : ℕ) → first_lock w p 1 walk ≡ Some place
    → FailsAt (λ k. All (λ x. passable w p x ≡ true) (take k walk)) place
locked-from w p walk place e = stated (All (λ x. passable w p x ≡ true)) walk place (locked-some w p walk 1 place e)

pub locked-to : (w : State) (p : ℕ) (walk : List ℕ) (place : ℕ)
    → FailsAt (λ k. All (λ x. passable w p x ≡ true) (take k walk)) place → first_lock w p 1 walk ≡ Some place
locked-to w p walk place (n, is, so, fails) =
    let next : suc n ≡ place = omega (arith, is) in
    locked-is w p walk 1 n so (λ rest. fails (subst (λ k. All (λ x. passable w p x ≡ true) (take k walk)) next rest))
    ∙ ap Some (sym is)

-- ---- the label of a walk

-- the walk is one of the member's, and does not have the label of the room where it ends
abbrev pub IsMislabelled : State → Form → Account → Type 0
IsMislabelled w form m =
    (to : ℕ) × (ss : List Step) × States w m to ss × (label_at m to ≢ Some (total (hop_of form) ss))

pub is-mislabelled : (w : State) → IsSound w → (form : Form) (m : Account) (walk : List ℕ) → m.walk ≡ Some walk
    → first_break w m.from 1 walk ≡ None → first_lock w m.player 1 walk ≡ None
    → is_label (label_at m (end_of m.from (steps_of w walk))) (total (hop_of form) (steps_of w walk)) ≡ false
    → IsMislabelled w form m
is-mislabelled w sound form m walk given b l f = (
  end_of m.from (steps_of w walk),
  steps_of w walk,
  record { stated = given ∙ ap Some (sym (named w walk)); walk = walk-from w sound m.player m.from 1 1 walk b l },
  λ is.
      let t : true ≡ false = sym
      (is-label (label_at m (end_of m.from (steps_of w walk))) (total (hop_of form) (steps_of w walk)) is) ∙ f in
      absurd (cc),
)

pub mislabelled-fails : (w : State) → IsSound w → (form : Form) (m : Account) (walk : List ℕ)
    → m.walk ≡ Some walk → IsMislabelled w form m
    → is_label (label_at m (end_of m.from (steps_of w walk))) (total (hop_of form) (steps_of w walk)) ≡ true → ⊥
mislabelled-fails w sound form m walk given (to, ss, states, other) e =
    let P : List Step → Type 0 = λ xs. label_at m (end_of m.from xs) ≡ Some (total (hop_of form) xs) in
    let is : P ss = subst P (stated-steps w sound m walk to ss given states)
    (label-is (label_at m (end_of m.from (steps_of w walk))) (total (hop_of form) (steps_of w walk)) e) in
    other (ap (label_at m) (sym (stated-end w sound m to ss states)) ∙ is)

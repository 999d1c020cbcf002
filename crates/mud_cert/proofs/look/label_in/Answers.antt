use Rattle.std.proofs.Common.{rules, ◌≡◌, ℕ, ◌<◌, ◌≤◌, ◌⊎◌, inl, inr, length, List, get_or, sym, subst, arith, nat_cmp}
use Rattle.std.proofs.Common.{Less, Equal, Greater}
use Rattle.std.proofs.lemmas.Bool.{cases_lt}
use Rattle.std.proofs.lemmas.Bool.Decides.{nat_tests}
use Rattle.std.specs.Ordering.{ordering_index}
use Rattle.std.proofs.lemmas.List.Sorted.{answers_always}
use Rattle.mud_roads.specs.declared.label.Label.{Label}
use Rattle.mud_cert.specs.inner.Labels.{Rises}
use Rattle.mud_cert.proofs.Lookups.{label-found, label-missing}
use Rattle.mud_cert.proofs.look.label_in.Goals as goal

same-from : (x y : ℕ) → nat_cmp x y ≡ Equal → x ≡ y
same-from x y e = grind (arith, nat_tests)

less-apart : (x y : ℕ) → nat_cmp x y ≡ Less → x ≡ y → ⊥
less-apart x y e f = grind (arith, nat_tests)

greater-apart : (x y : ℕ) → nat_cmp x y ≡ Greater → x ≡ y → ⊥
greater-apart x y e f = grind (arith, nat_tests)

index-le : (x y r : ℕ) → x ≤ y → ordering_index (nat_cmp x r) ≤ ordering_index (nat_cmp y r)
index-le x y r h = grind (arith, nat_tests)

at-most : (es : List (ℕ × Label)) (i j : ℕ) (d : ℕ × Label) → Rises es → i ≤ j → j < length es
    → (get_or es i d).0 ≤ (get_or es j d).0
at-most es i j d r le lt = go (cases_lt i j)
  where
    go : (i < j) ⊎ (j ≤ i) → (get_or es i d).0 ≤ (get_or es j d).0
    go (inl h) = let q : (get_or es i d).0 < (get_or es j d).0 = r i j d h lt in omega arith
    go (inr h) =
        let same : i ≡ j = omega arith in
        let P : ℕ → Type 0 = λ k. (get_or es i d).0 ≤ (get_or es k d).0 in
        subst P same (omega arith)

pub returns-in-Ok : goal.returns-in-Ok
returns-in-Ok c =
    let p = c.in-Ok.ensures.position (λ (e : ℕ × Label). e.0) (answers_always _ _ _ (λ f a r g k. search rules)) in
    sym (label-found c.args.labels.now c.args.room c.in-Ok.at (0, record { cost = 0; exits = 0 }) c.requires
    c.in-Ok.ensures.bound (same-from _ _ (p (0, record { cost = 0; exits = 0 }))))

pub returns-in-Err : goal.returns-in-Err
returns-in-Err c =
    let p = c.in-Err.ensures.position (λ (e : ℕ × Label). e.0) (answers_always _ _ _ (λ f a r g k. search rules)) in
    let q = p (λ i j d le lt. index-le _ _ _ (at-most c.args.labels.now i j d c.requires le lt)) in
    sym (label-missing c.args.labels.now c.args.room (λ i d lt e.
    elim (cases_lt i c.in-Err.field-0) as (λ s. ⊥) [
      | inl h ↦ less-apart _ _ (q.0 i d (omega arith) h) e
      | inr h ↦
          greater-apart _ _ (q.1 i d h lt) e
    ]))

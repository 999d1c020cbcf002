-- Rows of steps, once a step is removed.
use Rattle.std.proofs.Common.{◌≡◌, ℕ, zero, suc, ◌+◌, ◌-◌, ◌<◌, ◌≤◌, List, [], ◌∷◌, Bool, true, false, cond, length}
use Rattle.std.proofs.Common.{get_or, take, drop, map, filter, remove, All, refl, sym, ◌∙◌, ap, subst, inl, inr, arith}
use Rattle.std.proofs.lemmas.Bool.{cases_lt, lt-ltb, le-ltb}
use Rattle.std.proofs.lemmas.List.{length-drop, get_or-drop}
use Rattle.std.proofs.lemmas.List.Edits.{length-remove}
use Rattle.std.proofs.lemmas.List.Elements.{All-head, All-tail, All-take, All-drop}
use Rattle.mud_roads.specs.declared.label.Step.{Step}
use Rattle.mud_roads.specs.inner.Tables.{rows, Fit, end_without}

-- an end after the removed step is lowered, and one before it is not
pub end-after : (i end : ℕ) → i < end → end_without i end ≡ end - 1
end-after i end h = ap (λ (b : Bool). cond b (end - 1) end) (lt-ltb i end h)

pub end-before : (i end : ℕ) → end ≤ i → end_without i end ≡ end
end-before i end h = ap (λ (b : Bool). cond b (end - 1) end) (le-ltb i end h)

-- rows that begin and end one step earlier are the same
rows-earlier : (i from : ℕ) (ends : List ℕ) (steps : List Step) → i < from → Fit from ends steps
    → rows (from - 1) (map (end_without i) ends) steps ≡ rows from ends steps
rows-earlier i from [] steps h fit = refl
rows-earlier i from (end ∷ ends) steps h fit =
    let e : end - 1 - (from - 1) ≡ end - from = omega (arith, h, fit.0) in
    let after : i < end = omega (arith, h, fit.0) in
    ap (λ (n : ℕ). take (n - (from - 1)) steps ∷ rows n (map (end_without i) ends) (drop (n - (from - 1)) steps))
    (end-after i end after)
    ∙ ap (λ (n : ℕ). take n steps ∷ rows (end - 1) (map (end_without i) ends) (drop n steps)) e
    ∙ ap (λ (rs : List (List Step)). take (end - from) steps ∷ rs)
    (rows-earlier i end ends (drop (end - from) steps) after fit.2)

-- and fit
fit-earlier : (i from : ℕ) (ends : List ℕ) (steps : List Step) → i < from → Fit from ends steps
    → Fit (from - 1) (map (end_without i) ends) steps
fit-earlier i from [] steps h fit = fit
fit-earlier i from (end ∷ ends) steps h fit =
    let after : i < end = omega (arith, h, fit.0) in
    let e : end - from ≡ end_without i end - (from - 1) = omega (arith, h, fit.0, end-after i end after) in (
      omega (arith, h, fit.0, end-after i end after),
      omega (arith, e, fit.1),
      subst (λ (n : ℕ). Fit n (map (end_without i) ends) (drop (end_without i end - (from - 1)) steps))
          (sym (end-after i end after))
          (subst (λ (n : ℕ). Fit (end - 1) (map (end_without i) ends) (drop n steps)) e
          (fit-earlier i end ends (drop (end - from) steps) after fit.2)),
    )

-- a step removed at or after index n leaves the first n steps, and is missing in the rest
take-remove_before : (n k : ℕ) (steps : List Step) → n ≤ k → k < length steps
    → take n (remove steps k) ≡ take n steps
take-remove_before zero k steps le h = refl
take-remove_before (suc n) k [] le h = absurd (omega (arith, h))
take-remove_before (suc n) zero (s ∷ steps) le h = absurd (omega (arith, le))
take-remove_before (suc n) (suc k) (s ∷ steps) le h =
    ap (λ (ss : List Step). s ∷ ss) (take-remove_before n k steps (omega (arith, le)) (omega (arith, h)))

drop-remove_before : (n k : ℕ) (steps : List Step) → n ≤ k → k < length steps
    → drop n (remove steps k) ≡ remove (drop n steps) (k - n)
drop-remove_before zero k steps le h = let e : k ≡ k - 0 = omega arith in ap (remove steps) e
drop-remove_before (suc n) k [] le h = absurd (omega (arith, h))
drop-remove_before (suc n) zero (s ∷ steps) le h = absurd (omega (arith, le))
drop-remove_before (suc n) (suc k) (s ∷ steps) le h =
    let e : k - n ≡ suc k - suc n = omega arith in
    drop-remove_before n k steps (omega (arith, le)) (omega (arith, h)) ∙ ap (remove (drop n steps)) e

-- a step removed before or at index n moves the rest by one
drop-remove_after : (n k : ℕ) (steps : List Step) → k ≤ n → k < length steps
    → drop n (remove steps k) ≡ drop (suc n) steps
drop-remove_after n k [] le h = absurd (omega (arith, h))
drop-remove_after n zero (s ∷ steps) le h = refl
drop-remove_after zero (suc k) (s ∷ steps) le h = absurd (omega (arith, le))
drop-remove_after (suc n) (suc k) (s ∷ steps) le h =
    drop-remove_after n k steps (omega (arith, le)) (omega (arith, h))

-- if the removed step does not pass a test, what passes it stays
filter-remove : (p : Step → Bool) (n k : ℕ) (steps : List Step) (s : Step) → k ≤ n → k < length steps
    → p (get_or steps k s) ≡ false
    → filter p (take n (remove steps k)) ≡ filter p (take (suc n) steps)
filter-remove p n k [] d le h fails = absurd (omega (arith, h))
filter-remove p n zero (s ∷ steps) d le h fails =
    let rest = filter p (take n steps) in
    ap (λ (b : Bool). cond b (s ∷ rest) rest) (sym fails)
filter-remove p zero (suc k) (s ∷ steps) d le h fails = absurd (omega (arith, le))
filter-remove p (suc n) (suc k) (s ∷ steps) d le h fails =
    ap (λ (ss : List Step). cond (p s) (s ∷ ss) ss)
    (filter-remove p n k steps d (omega (arith, le)) (omega (arith, h)) fails)

-- what the first row leaves, if the removed step is in it
drop-first_row : (i k from end : ℕ) (steps : List Step) → i ≡ from + k → k < length steps → i < end
    → drop (end - 1 - from) (remove steps k) ≡ drop (end - from) steps
drop-first_row i k from end steps is h after =
    let e : suc (end - 1 - from) ≡ end - from = omega (arith, is, after) in
    drop-remove_after (end - 1 - from) k steps (omega (arith, is, after)) h ∙ ap (λ (n : ℕ). drop n steps) e

-- the rows without the step at an index still fit
pub fit-removed : (i k from : ℕ) (ends : List ℕ) (steps : List Step) → Fit from ends steps
    → i ≡ from + k → k < length steps
    → Fit from (map (end_without i) ends) (remove steps k)
fit-removed i k from [] steps fit is h = absurd (omega (arith, ap length fit, h))
fit-removed i k from (end ∷ ends) steps fit is h =
    let size = length-remove steps k h in
    let left = length-drop (end - from) steps in
    elim (cases_lt i end) as (λ _. Fit from (end_without i end ∷ map (end_without i) ends) (remove steps k)) [
      | inl after ↦
          let at = end-after i end after in (
            omega (arith, is, at, after),
            omega (arith, is, at, after, size, fit.1),
            subst (λ (n : ℕ). Fit n (map (end_without i) ends) (drop (n - from) (remove steps k))) (sym at)
                (subst (Fit (end - 1) (map (end_without i) ends)) (sym (drop-first_row i k from end steps is h after))
                (fit-earlier i end ends (drop (end - from) steps) after fit.2)),
          )
      | inr before ↦
          let at = end-before i end before in
          let rest = drop-remove_before (end - from) k steps (omega (arith, is, before, fit.0)) h in (
            omega (arith, at, fit.0),
            omega (arith, is, at, before, size, fit.0, h),
            subst (λ (n : ℕ). Fit n (map (end_without i) ends) (drop (n - from) (remove steps k))) (sym at)
                (subst (Fit end (map (end_without i) ends)) (sym rest)
                (fit-removed i (k - (end - from)) end ends (drop (end - from) steps) fit.2
                (omega (arith, is, before, fit.0)) (omega (arith, is, before, fit.0, left, h)))),
          )
    ]

-- and what passes a test that this step does not pass is the same
pub rows-removed : (p : Step → Bool) (i k from : ℕ) (ends : List ℕ) (steps : List Step) (s : Step)
    → Fit from ends steps → i ≡ from + k → k < length steps → p (get_or steps k s) ≡ false
    → map (filter p) (rows from (map (end_without i) ends) (remove steps k)) ≡ map (filter p) (rows from ends steps)
rows-removed p i k from [] steps s fit is h fails = refl
rows-removed p i k from (end ∷ ends) steps s fit is h fails =
    let left = length-drop (end - from) steps in
    let ends' = map (end_without i) ends in
    let rowed = λ (n : ℕ). filter p (take (n - from) (remove steps k))
    ∷ map (filter p) (rows n ends' (drop (n - from) (remove steps k))) in
    elim (cases_lt i end) as (λ _. rowed (end_without i end) ≡ map (filter p) (rows from (end ∷ ends) steps)) [
      | inl after ↦
          let e : suc (end - 1 - from) ≡ end - from = omega (arith, is, after) in
          let row = filter p (take (end - from) steps) in
          ap rowed (end-after i end after)
          ∙ ap (λ (ss : List Step). ss ∷ map (filter p) (rows (end - 1) ends' (drop (end - 1 - from) (remove steps k))))
          (filter-remove p (end - 1 - from) k steps s (omega (arith, is, after)) h fails
          ∙ ap (λ (n : ℕ). filter p (take n steps)) e)
          ∙ ap (λ (ss : List Step). row ∷ map (filter p) (rows (end - 1) ends' ss))
          (drop-first_row i k from end steps is h after)
          ∙ ap (λ (rs : List (List Step)). row ∷ map (filter p) rs)
          (rows-earlier i end ends (drop (end - from) steps) after fit.2)
      | inr before ↦
          let n = end - from in
          let le : n ≤ k = omega (arith, is, before, fit.0) in
          let e : k ≡ n + (k - n) = omega (arith, le) in
          let row = filter p (take n steps) in
          ap rowed (end-before i end before)
          ∙ ap (λ (ss : List Step). filter p ss ∷ map (filter p) (rows end ends' (drop n (remove steps k))))
          (take-remove_before n k steps le h)
          ∙ ap (λ (ss : List Step). row ∷ map (filter p) (rows end ends' ss)) (drop-remove_before n k steps le h)
          ∙ ap (λ (rs : List (List Step)). row ∷ rs)
          (rows-removed p i (k - n) end ends (drop n steps) s fit.2 (omega (arith, is, before, fit.0))
          (omega (arith, le, left, h)) (ap p (get_or-drop n steps (k - n) s ∙ ap (λ (j : ℕ). get_or steps j s) (sym e))
          ∙ fails))
    ]

-- where each step passes a test, all of them stay
filter_all : (p : Step → Bool) (steps : List Step) → All (λ s. p s ≡ true) steps → filter p steps ≡ steps
filter_all p [] all = refl
filter_all p (s ∷ steps) all =
    ap (λ (b : Bool). cond b (s ∷ filter p steps) (filter p steps)) (All-head (λ (t : Step). p t ≡ true) s steps all)
    ∙ ap (λ (ss : List Step). s ∷ ss) (filter_all p steps (All-tail (λ (t : Step). p t ≡ true) s steps all))

-- and the rows stay as they are
pub rows-kept : (p : Step → Bool) (from : ℕ) (ends : List ℕ) (steps : List Step) → All (λ s. p s ≡ true) steps
    → map (filter p) (rows from ends steps) ≡ rows from ends steps
rows-kept p from [] steps all = refl
rows-kept p from (end ∷ ends) steps all =
    let P = λ (s : Step). p s ≡ true in
    ap (λ (ss : List Step). ss ∷ map (filter p) (rows end ends (drop (end - from) steps)))
    (filter_all p (take (end - from) steps) (All-take P (end - from) steps all))
    ∙ ap (λ (rs : List (List Step)). take (end - from) steps ∷ rs)
    (rows-kept p end ends (drop (end - from) steps) (All-drop P (end - from) steps all))

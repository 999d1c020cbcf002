-- Rows of steps, concatenated.
use Rattle.std.proofs.Common.{◌≡◌, ℕ, zero, suc, ◌+◌, ◌-◌, ◌<◌, ◌≤◌, List, [], ◌∷◌, ◌++◌, length, get_or, take, drop}
use Rattle.std.proofs.Common.{set, map, refl, sym, ◌∙◌, ap, subst, arith}
use Rattle.std.specs.Prelude.{All, insert}
use Rattle.std.proofs.lemmas.List.{length-append, length-drop, length-map, length_push, length-take-le, append-nil}
use Rattle.std.proofs.lemmas.List.{append_assoc, drop-drop, drop-take, take-take, take-map, drop-map, take_at, drop_at}
use Rattle.std.proofs.lemmas.List.{take-append-le, drop-append-le, take_all}
use Rattle.std.proofs.lemmas.List.Edits.{length-insert}
use Rattle.std.proofs.lemmas.List.Elements.{All-from_get_or}
use Rattle.mud_roads.specs.declared.label.Step.{Step}
use Rattle.mud_roads.specs.inner.Tables.{rows, Fit}

-- the index at which row k begins
abbrev pub begin : ℕ → List ℕ → ℕ → ℕ
begin from ends k = get_or (from ∷ ends) k 0

-- there are as many rows as ends
pub rows-count : (from : ℕ) (ends : List ℕ) (steps : List Step) → length (rows from ends steps) ≡ length ends
rows-count from [] steps = refl
rows-count from (end ∷ ends) steps = ap suc (rows-count end ends (drop (end - from) steps))

-- a row lies within the steps
pub row-within : (from : ℕ) (ends : List ℕ) (steps : List Step) → Fit from ends steps → (k : ℕ) → k < length ends
    → (from ≤ begin from ends k) × (begin from ends k ≤ get_or ends k 0) × (get_or ends k 0 ≤ from + length steps)
row-within from [] steps fit k h = absurd (omega arith)
row-within from (end ∷ ends) steps fit zero h = (omega arith, fit.0, omega (arith, fit.0, fit.1))
row-within from (end ∷ ends) steps fit (suc k) h =
    let more = row-within end ends (drop (end - from) steps) fit.2 k (omega arith) in
    let size = length-drop (end - from) steps in
    (omega (arith, fit.0, more.0), more.1, omega (arith, fit.0, fit.1, more.2, size))

-- and is this slice of them
pub row-part : (from : ℕ) (ends : List ℕ) (steps : List Step) → Fit from ends steps → (k : ℕ) → k < length ends
    → get_or (rows from ends steps) k []
    ≡ take (get_or ends k 0 - begin from ends k) (drop (begin from ends k - from) steps)
row-part from [] steps fit k h = absurd (omega arith)
row-part from (end ∷ ends) steps fit zero h =
    let e : from - from ≡ 0 = omega arith in
    ap (λ (n : ℕ). take (end - from) (drop n steps)) (sym e)
row-part from (end ∷ ends) steps fit (suc k) h =
    let within = row-within end ends (drop (end - from) steps) fit.2 k (omega arith) in
    let e : (end - from) + (begin end ends k - end) ≡ begin end ends k - from = omega (arith, fit.0, within.0) in
    row-part end ends (drop (end - from) steps) fit.2 k (omega arith)
    ∙ ap (take (get_or ends k 0 - begin end ends k))
    (drop-drop (begin end ends k - end) (end - from) steps ∙ ap (λ (n : ℕ). drop n steps) e)

-- the rows with the steps of one more row appended
pub rows-more : (from : ℕ) (ends : List ℕ) (steps row : List Step) (end : ℕ) → Fit from ends steps
    → end ≡ from + length steps + length row
    → rows from (ends ++ end ∷ []) (steps ++ row) ≡ rows from ends steps ++ row ∷ []
rows-more from [] steps row end fit is =
    let none : length steps ≡ 0 = ap length fit in
    let size : length row ≤ end - from = omega (arith, is, none) in
    ap (λ (ss : List Step). take (end - from) (ss ++ row) ∷ []) fit
    ∙ ap (λ (ss : List Step). ss ∷ []) (take_all (end - from) row size)
rows-more from (first ∷ ends) steps row end fit is =
    let size = length-drop (first - from) steps in
    let here : take (first - from) (steps ++ row) ≡ take (first - from) steps =
    take-append-le (first - from) steps row fit.1 in
    let rest : drop (first - from) (steps ++ row) ≡ drop (first - from) steps ++ row =
    drop-append-le (first - from) steps row fit.1 in
    ap (λ (ss : List Step). ss ∷ rows first (ends ++ end ∷ []) (drop (first - from) (steps ++ row))) here
    ∙ ap (λ (ss : List Step). take (first - from) steps ∷ rows first (ends ++ end ∷ []) ss) rest
    ∙ ap (λ (rs : List (List Step)). take (first - from) steps ∷ rs)
    (rows-more first ends (drop (first - from) steps) row end fit.2 (omega (arith, is, size, fit.0, fit.1)))

-- they still fit
pub fit-more : (from : ℕ) (ends : List ℕ) (steps row : List Step) (end : ℕ) → Fit from ends steps
    → end ≡ from + length steps + length row
    → Fit from (ends ++ end ∷ []) (steps ++ row)
fit-more from [] steps row end fit is =
    let none : length steps ≡ 0 = ap length fit in
    let size = length-append steps row in
    let past : length (drop (end - from) (steps ++ row)) ≡ 0 =
    omega (arith, is, none, size, length-drop (end - from) (steps ++ row)) in
    (omega (arith, is), omega (arith, is, size), nothing (drop (end - from) (steps ++ row)) past)
  where
    nothing : (ss : List Step) → length ss ≡ 0 → ss ≡ []
    nothing [] e = refl
    nothing (s ∷ ss) e = absurd (omega (arith, e))
fit-more from (first ∷ ends) steps row end fit is =
    let size = length-append steps row in
    let left = length-drop (first - from) steps in (
      fit.0,
      omega (arith, fit.1, size),
      subst (Fit first (ends ++ end ∷ [])) (sym (drop-append-le (first - from) steps row fit.1))
          (fit-more first ends (drop (first - from) steps) row end fit.2 (omega (arith, is, left, fit.0, fit.1))),
    )

-- the rows with an empty one appended
pub rows-empty : (ends : List ℕ) (steps : List Step) → Fit 0 ends steps
    → rows 0 (ends ++ length steps ∷ []) steps ≡ rows 0 ends steps ++ [] ∷ []
rows-empty ends steps fit =
    ap (rows 0 (ends ++ length steps ∷ [])) (sym (append-nil steps))
    ∙ rows-more 0 ends steps [] (length steps) fit (omega arith)

-- they still fit
pub fit-empty : (ends : List ℕ) (steps : List Step) → Fit 0 ends steps → Fit 0 (ends ++ length steps ∷ []) steps
fit-empty ends steps fit =
    subst (Fit 0 (ends ++ length steps ∷ [])) (append-nil steps)
    (fit-more 0 ends steps [] (length steps) fit (omega arith))

-- the ends, with those from row k on moved by one
abbrev pub raised : ℕ → List ℕ → List ℕ
raised k ends = take k ends ++ map suc (drop k ends)

-- an end is at most the number of the steps
pub ends-within : (from : ℕ) (ends : List ℕ) (steps : List Step) → Fit from ends steps
    → All (λ (end : ℕ). end ≤ from + length steps) ends
ends-within from ends steps fit =
    All-from_get_or (λ (end : ℕ). end ≤ from + length steps) ends 0
    (λ k h. (row-within from ends steps fit k h).2)

-- rows that begin and end one step later are the same
rows-later : (from : ℕ) (ends : List ℕ) (steps : List Step)
    → rows (suc from) (map suc ends) steps ≡ rows from ends steps
rows-later from [] steps = refl
rows-later from (end ∷ ends) steps =
    let e : suc end - suc from ≡ end - from = omega arith in
    ap (λ (n : ℕ). take n steps ∷ rows (suc end) (map suc ends) (drop n steps)) e
    ∙ ap (λ (rs : List (List Step)). take (end - from) steps ∷ rs) (rows-later end ends (drop (end - from) steps))

-- and fit
fit-later : (from : ℕ) (ends : List ℕ) (steps : List Step) → Fit from ends steps → Fit (suc from) (map suc ends) steps
fit-later from [] steps fit = fit
fit-later from (end ∷ ends) steps fit =
    let e : end - from ≡ suc end - suc from = omega arith in (
      omega (arith, fit.0),
      omega (arith, fit.1),
      subst (λ (n : ℕ). Fit (suc end) (map suc ends) (drop n steps)) e
          (fit-later end ends (drop (end - from) steps) fit.2),
    )

-- the steps before index n, and those after it, once a step is inserted at index m
take-insert : (n m : ℕ) (steps : List Step) (s : Step) → n ≤ m → m ≤ length steps
    → take n (insert steps m s) ≡ take n steps
take-insert n m steps s le h =
    take-append-le n (take m steps) (s ∷ drop m steps) (omega (arith, le, length-take-le m steps h))
    ∙ take-take n m steps le

drop-insert : (n m : ℕ) (steps : List Step) (s : Step) → n ≤ m → m ≤ length steps
    → drop n (insert steps m s) ≡ insert (drop n steps) (m - n) s
drop-insert n m steps s le h =
    let e : m ≡ n + (m - n) = omega (arith, le) in
    drop-append-le n (take m steps) (s ∷ drop m steps) (omega (arith, le, length-take-le m steps h))
    ∙ ap (λ (i : ℕ). drop n (take i steps) ++ s ∷ drop m steps) e
    ∙ ap (λ (front : List Step). front ++ s ∷ drop m steps) (drop-take n (m - n) steps)
    ∙ ap (λ (i : ℕ). take (m - n) (drop n steps) ++ s ∷ drop i steps) e
    ∙ ap (λ (rest : List Step). take (m - n) (drop n steps) ++ s ∷ rest) (sym (drop-drop (m - n) n steps))

-- the steps up to the inserted one, and those after it
take-inserted : (n : ℕ) (steps : List Step) (s : Step) → n ≤ length steps
    → take (suc n) (insert steps n s) ≡ take n steps ++ s ∷ []
take-inserted n steps s h =
    ap (take (suc n)) (sym (append_assoc (take n steps) (s ∷ []) (drop n steps)))
    ∙ take_at (take n steps ++ s ∷ []) (drop n steps) (suc n)
    (omega (arith, length_push (take n steps) s, length-take-le n steps h))

drop-inserted : (n : ℕ) (steps : List Step) (s : Step) → n ≤ length steps
    → drop (suc n) (insert steps n s) ≡ drop n steps
drop-inserted n steps s h =
    ap (drop (suc n)) (sym (append_assoc (take n steps) (s ∷ []) (drop n steps)))
    ∙ drop_at (take n steps ++ s ∷ []) (drop n steps) (suc n)
    (omega (arith, length_push (take n steps) s, length-take-le n steps h))

-- what a step inserted at the end of row k leaves after the first row
drop-first : (from end : ℕ) (ends : List ℕ) (steps : List Step) → Fit from (end ∷ ends) steps
    → (k : ℕ) → k < length ends → (s : Step)
    → (end - from ≤ get_or ends k 0 - from) × (get_or ends k 0 - from ≤ length steps)
    × (drop (end - from) (insert steps (get_or ends k 0 - from) s)
    ≡ insert (drop (end - from) steps) (get_or ends k 0 - end) s)
drop-first from end ends steps fit k h s =
    let rest = drop (end - from) steps in
    let at = get_or ends k 0 in
    let within = row-within end ends rest fit.2 k h in
    let size = length-drop (end - from) steps in
    let le : end - from ≤ at - from = omega (arith, within.0, within.1) in
    let fits : at - from ≤ length steps = omega (arith, within.2, size, fit.0, fit.1) in
    let e : at - from - (end - from) ≡ at - end = omega (arith, fit.0, within.0, within.1) in (
      le,
      fits,
      drop-insert (end - from) (at - from) steps s le fits ∙ ap (λ (i : ℕ). insert rest i s) e,
    )

-- a step inserted at the end of row k is the last of that row
pub rows-one_more : (from : ℕ) (ends : List ℕ) (steps : List Step) → Fit from ends steps
    → (k : ℕ) → k < length ends → (s : Step)
    → rows from (raised k ends) (insert steps (get_or ends k 0 - from) s)
    ≡ set (rows from ends steps) k (get_or (rows from ends steps) k [] ++ s ∷ [])
rows-one_more from [] steps fit k h s = absurd (omega arith)
rows-one_more from (end ∷ ends) steps fit zero h s =
    let e : suc end - from ≡ suc (end - from) = omega (arith, fit.0) in
    let all = insert steps (end - from) s in
    let row = take (end - from) steps ++ s ∷ [] in
    ap (λ (n : ℕ). take n all ∷ rows (suc end) (map suc ends) (drop n all)) e
    ∙ ap (λ (ss : List Step). ss ∷ rows (suc end) (map suc ends) (drop (suc (end - from)) all))
    (take-inserted (end - from) steps s fit.1)
    ∙ ap (λ (ss : List Step). row ∷ rows (suc end) (map suc ends) ss) (drop-inserted (end - from) steps s fit.1)
    ∙ ap (λ (rs : List (List Step)). row ∷ rs) (rows-later end ends (drop (end - from) steps))
rows-one_more from (end ∷ ends) steps fit (suc k) h s =
    let at = get_or ends k 0 - from in
    let row = take (end - from) steps in
    let rest = drop-first from end ends steps fit k (omega arith) s in
    ap (λ (ss : List Step). ss ∷ rows end (raised k ends) (drop (end - from) (insert steps at s)))
    (take-insert (end - from) at steps s rest.0 rest.1)
    ∙ ap (λ (ss : List Step). row ∷ rows end (raised k ends) ss) rest.2
    ∙ ap (λ (rs : List (List Step)). row ∷ rs)
    (rows-one_more end ends (drop (end - from) steps) fit.2 k (omega arith) s)

-- they still fit
pub fit-one_more : (from : ℕ) (ends : List ℕ) (steps : List Step) → Fit from ends steps
    → (k : ℕ) → k < length ends → (s : Step)
    → Fit from (raised k ends) (insert steps (get_or ends k 0 - from) s)
fit-one_more from [] steps fit k h s = absurd (omega arith)
fit-one_more from (end ∷ ends) steps fit zero h s =
    let e : suc end - from ≡ suc (end - from) = omega (arith, fit.0) in
    let all = insert steps (end - from) s in
    let size = length-insert steps (end - from) s fit.1 in (
      omega (arith, fit.0),
      omega (arith, e, size, fit.1),
      subst (Fit (suc end) (map suc ends))
          (sym (ap (λ (n : ℕ). drop n all) e ∙ drop-inserted (end - from) steps s fit.1))
          (fit-later end ends (drop (end - from) steps) fit.2),
    )
fit-one_more from (end ∷ ends) steps fit (suc k) h s =
    let rest = drop-first from end ends steps fit k (omega arith) s in
    let size = length-insert steps (get_or ends k 0 - from) s rest.1 in (
      fit.0,
      omega (arith, size, fit.1),
      subst (Fit end (raised k ends)) (sym rest.2)
          (fit-one_more end ends (drop (end - from) steps) fit.2 k (omega arith) s),
    )

-- the rows with each step replaced
pub rows-mapped : (f : Step → Step) (from : ℕ) (ends : List ℕ) (steps : List Step)
    → rows from ends (map f steps) ≡ map (map f) (rows from ends steps)
rows-mapped f from [] steps = refl
rows-mapped f from (end ∷ ends) steps =
    let row = map f (take (end - from) steps) in
    ap (λ (ss : List Step). ss ∷ rows end ends (drop (end - from) (map f steps))) (take-map f (end - from) steps)
    ∙ ap (λ (ss : List Step). row ∷ rows end ends ss) (drop-map f (end - from) steps)
    ∙ ap (λ (rs : List (List Step)). row ∷ rs) (rows-mapped f end ends (drop (end - from) steps))

-- they still fit
pub fit-mapped : (f : Step → Step) (from : ℕ) (ends : List ℕ) (steps : List Step) → Fit from ends steps
    → Fit from ends (map f steps)
fit-mapped f from [] steps fit = ap (map f) fit
fit-mapped f from (end ∷ ends) steps fit = (
  fit.0,
  omega (arith, fit.1, length-map steps f),
  subst (Fit end ends) (sym (drop-map f (end - from) steps))
      (fit-mapped f end ends (drop (end - from) steps) fit.2),
)

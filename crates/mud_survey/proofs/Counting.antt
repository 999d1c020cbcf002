-- How much is left to do while rooms are marked.
use Rattle.std.proofs.Common.{◌≡◌, ℕ, ◌+◌, ◌*◌, ◌<◌, ◌≤◌, true, false, cond, List, [], ◌∷◌, ◌++◌, length, get_or, set}
use Rattle.std.proofs.Common.{refl, sym, ◌∙◌, ap, arith}
use Rattle.std.specs.Prelude.{Bool, not, count_by}
use Rattle.std.proofs.lemmas.List.{length_push}
use Rattle.std.proofs.lemmas.List.Sums.{sum_by-set}
use Rattle.mud_survey.specs.inner.Marks.{mark_at, work_left}

-- one more mark, one fewer without
count-set : (marks : List Bool) (n : ℕ) → n < length marks → mark_at marks n ≡ false
    → count_by not (set marks n true) + 1 ≡ count_by not marks
count-set marks n inside clear =
    let one = sum_by-set (λ b. cond (not b) 1 0) marks n true false inside in
    let was : ◌≡◌ {A = ℕ} (cond (not (get_or marks n false)) 1 0) 1 = ap (λ b. cond (not b) 1 0) clear in
    omega (arith, one, was)

-- a room that is marked and waits from now on counts once, and counted twice
pub work-marked : (marks : List Bool) (waiting : List ℕ) (n : ℕ) → n < length marks → mark_at marks n ≡ false
    → work_left (set marks n true) (waiting ++ n ∷ []) ≤ work_left marks waiting
work-marked marks waiting n inside clear =
    let count = count-set marks n inside clear in
    let long = length_push waiting n in
    omega (arith, count, long)

-- a room that waited and is looked at counts no more
pub work-taken : (marks : List Bool) (waiting : List ℕ) (n : ℕ)
    → work_left marks waiting + 1 ≡ work_left marks (waiting ++ n ∷ [])
work-taken marks waiting n = let long = length_push waiting n in omega (arith, long)

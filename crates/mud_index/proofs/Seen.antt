-- The model of the lists, from the lists in memory.
use Rattle.std.proofs.Common.{◌≡◌, ◌∙◌, ℕ, zero, suc, ◌+◌, ◌<◌, ◌≤◌, Bool, true, false, cond, List, [], ◌∷◌, length}
use Rattle.std.proofs.Common.{Some, get_or, set, refl, sym, ap, arith}
use Rattle.std.specs.Prelude.{nat_eq, if◌then◌else◌}
use Rattle.std.specs.Option.{unwrap_or}
use Rattle.std.specs.Map.{lookup}
use Rattle.std.specs.List.{AllZip, enumerate_from, list_any}
use Rattle.std.proofs.lemmas.Bool.{eqb-true, eqb-false, eq-eqb, ne_eqb}
use Rattle.std.proofs.lemmas.List.{get_or-set_same, get_or-set_other, get_or_past}
use Rattle.mud_index.specs.Rising.{insert, put, without}
use Rattle.mud_index.specs.Lists.{list_at, AreChanged, AreSame}

bool_cases : {P : Type 0} (b : Bool) → (b ≡ true → P) → (b ≡ false → P) → P
bool_cases true f g = f refl
bool_cases false f g = g refl

-- the list of number k + i is the one at place i
at_place : (lists : List (List ℕ)) (k i : ℕ) → list_at (enumerate_from k lists) (k + i) ≡ get_or lists i []
at_place [] k i = refl
at_place (list ∷ lists) k zero =
    ap (λ t. unwrap_or (cond t (Some list) (lookup (nat_eq (k + 0)) (enumerate_from (k + 1) lists))) [])
    (eq-eqb (k + 0) k (omega arith))
at_place (list ∷ lists) k (suc i) =
    let next : k + suc i ≡ (k + 1) + i = omega arith in
    ap (λ t. unwrap_or (cond t (Some list) (lookup (nat_eq (k + suc i)) (enumerate_from (k + 1) lists))) [])
    (ne_eqb (k + suc i) k (λ e. omega arith))
    ∙ ap (λ n. list_at (enumerate_from (k + 1) lists) n) next
    ∙ at_place lists (k + 1) i

pub list_placed : (lists : List (List ℕ)) (n : ℕ) → list_at (enumerate_from 0 lists) n ≡ get_or lists n []
list_placed lists n =
    let same : n ≡ 0 + n = omega arith in
    ap (λ m. list_at (enumerate_from 0 lists) m) same ∙ at_place lists 0 n

-- each place has an equal list
pub same_seen : (xs ys : List (List ℕ)) → ((n : ℕ) → get_or ys n [] ≡ get_or xs n [])
    → AreSame (enumerate_from 0 xs) (enumerate_from 0 ys)
same_seen xs ys same = λ n. list_placed ys n ∙ same n ∙ sym (list_placed xs n)

-- the list at the holder's place changes
pub changed_seen : (xs : List (List ℕ)) (h : ℕ) (f : List ℕ → List ℕ) → h < length xs
    → AreChanged (λ n. nat_eq n h) f (enumerate_from 0 xs) (enumerate_from 0 (set xs h (f (get_or xs h []))))
changed_seen xs h f within = λ n.
    list_placed (set xs h (f (get_or xs h []))) n
    ∙ bool_cases (nat_eq n h)
    (λ here.
    ap (λ m. get_or (set xs h (f (get_or xs h []))) m []) (eqb-true n h here)
    ∙ get_or-set_same xs h (f (get_or xs h [])) [] within
    ∙ ap (λ m. f (get_or xs m [])) (sym (eqb-true n h here))
    ∙ ap f (sym (list_placed xs n))
    ∙ sym (ap (λ t. if t then f (list_at (enumerate_from 0 xs) n) else list_at (enumerate_from 0 xs) n) here))
    (λ past.
    get_or-set_other xs h n (f (get_or xs h [])) [] (eqb-false n h past)
    ∙ sym (list_placed xs n)
    ∙ sym (ap (λ t. if t then f (list_at (enumerate_from 0 xs) n) else list_at (enumerate_from 0 xs) n) past))

-- likewise for lists that are equal place by place
pub changed_later : (xs ys : List (List ℕ)) (h : ℕ) (f : List ℕ → List ℕ)
    → ((n : ℕ) → get_or ys n [] ≡ get_or xs n []) → h < length ys
    → AreChanged (λ n. nat_eq n h) f (enumerate_from 0 xs) (enumerate_from 0 (set ys h (f (get_or ys h []))))
changed_later xs ys h f same within = λ n.
    changed_seen ys h f within n ∙ ap (λ v. if nat_eq n h then f v else v) (same_seen xs ys same n)

-- a holder without a place has the empty list, and nothing in it changes
pub unchanged_past : (xs : List (List ℕ)) (h m : ℕ) → length xs ≤ h
    → AreChanged (λ n. nat_eq n h) (without m) (enumerate_from 0 xs) (enumerate_from 0 xs)
unchanged_past xs h m past = λ n.
    let lists = enumerate_from 0 xs in
    bool_cases (nat_eq n h)
    (λ here.
    let empty : list_at lists n ≡ [] =
    list_placed xs n ∙ ap (λ v. get_or xs v []) (eqb-true n h here) ∙ get_or_past xs h [] past in
    empty ∙ sym (ap (without m) empty)
    ∙ sym (ap (λ t. if t then without m (list_at lists n) else list_at lists n) here))
    (λ other. sym (ap (λ t. if t then without m (list_at lists n) else list_at lists n) other))

pub zipped : {A : Type 0} (C : A → A → Type 0) → ((x y : A) → C x y → y ≡ x) → (xs ys : List A) → AllZip C xs ys
    → ys ≡ xs
zipped C same [] [] all = refl
zipped C same [] (y ∷ ys) all = absurd all
zipped C same (x ∷ xs) [] all = absurd all
zipped C same (x ∷ xs) (y ∷ ys) all = λ i. same x y all.0 i ∷ zipped C same xs ys all.1 i

-- inserting a number that is there already changes nothing
pub put-there : (l : List (ℕ × List ℕ)) (h m : ℕ) → list_any (nat_eq m) (list_at l h) ≡ true
    → AreChanged (λ n. nat_eq n h) (put m) l l
put-there l h m there = λ n.
    bool_cases (nat_eq n h)
    (λ here.
    let is : list_any (nat_eq m) (list_at l n) ≡ true = ap (λ v. list_any (nat_eq m) (list_at l v)) (eqb-true n h here)
    ∙ there in
    sym (ap (λ b. if b then list_at l n else insert m (list_at l n)) is)
    ∙ sym (ap (λ t. if t then put m (list_at l n) else list_at l n) here))
    (λ past. sym (ap (λ t. if t then put m (list_at l n) else list_at l n) past))

pub put-new : (l l' : List (ℕ × List ℕ)) (h m : ℕ) → list_any (nat_eq m) (list_at l h) ≡ false
    → AreChanged (λ n. nat_eq n h) (insert m) l l' → AreChanged (λ n. nat_eq n h) (put m) l l'
put-new l l' h m new is = λ n.
    is n
    ∙ bool_cases (nat_eq n h)
    (λ here.
    let not_in : list_any (nat_eq m) (list_at l n) ≡ false =
    ap (λ v. list_any (nat_eq m) (list_at l v)) (eqb-true n h here) ∙ new in
    ap (λ t. if t then insert m (list_at l n) else list_at l n) here
    ∙ sym (ap (λ b. if b then list_at l n else insert m (list_at l n)) not_in)
    ∙ sym (ap (λ t. if t then put m (list_at l n) else list_at l n) here))
    (λ past. ap (λ t. if t then insert m (list_at l n) else list_at l n) past
    ∙ sym (ap (λ t. if t then put m (list_at l n) else list_at l n) past))

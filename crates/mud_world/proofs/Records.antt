-- Records by number: look-ups after a change, and sorted numbers.
use Rattle.std.proofs.Common.{◌≡◌, ◌≢◌, ℕ, zero, suc, ◌+◌, ◌<◌, ◌≤◌, Bool, true, false, cond, ◌&&◌, List, [], ◌∷◌, ◌++◌}
use Rattle.std.proofs.Common.{Option, Some, None, refl, sym, ◌∙◌, ap, subst, arith}
use Rattle.std.specs.Prelude.{nat_eq}
use Rattle.std.specs.Option.{option_map_or}
use Rattle.std.specs.List.{list_all}
use Rattle.std.specs.Map.{lookup, set_value, remove_entry}
use Rattle.std.proofs.lemmas.Bool.{eqb-true, eq-eqb, ne_eqb}
use Rattle.mud_key.specs.Tree.{Tree, asks_of}
use Rattle.mud_world.specs.declared.record.Record.{Record}
use Rattle.mud_world.specs.State.{State, key_of, nests}
use Rattle.mud_world.specs.Sound.{IsRising}

pub record_cases : {P : Type 0} (v : Option Record) → (v ≡ None → P) → ((r : Record) → v ≡ Some r → P) → P
record_cases None f g = f refl
record_cases (Some p) f g = g p refl

pub bool_cases : {P : Type 0} (b : Bool) → (b ≡ true → P) → (b ≡ false → P) → P
bool_cases true f g = f refl
bool_cases false f g = g refl

-- ---- look-ups
pub lookup-set_value_same : (n : ℕ) (r old : Record) (es : List (ℕ × Record)) → lookup (nat_eq n) es ≡ Some old
    → lookup (nat_eq n) (set_value (nat_eq n) es r) ≡ Some r
lookup-set_value_same n r old [] at = cc
lookup-set_value_same n r old (e ∷ es) at =
    bool_cases (nat_eq n e.0)
    (λ here. ap (λ b. lookup (nat_eq n) (cond b ((e.0, r) ∷ es) (e ∷ set_value (nat_eq n) es r))) here
    ∙ ap (λ b. cond b (Some r) (lookup (nat_eq n) es)) here)
    (λ past.
    ap (λ b. lookup (nat_eq n) (cond b ((e.0, r) ∷ es) (e ∷ set_value (nat_eq n) es r))) past
    ∙ ap (λ b. cond b (Some e.1) (lookup (nat_eq n) (set_value (nat_eq n) es r))) past
    ∙ lookup-set_value_same n r old es (sym (ap (λ b. cond b (Some e.1) (lookup (nat_eq n) es)) past) ∙ at))

pub lookup-set_value_other : (n q : ℕ) → q ≢ n → (r : Record) (es : List (ℕ × Record))
    → lookup (nat_eq q) (set_value (nat_eq n) es r) ≡ lookup (nat_eq q) es
lookup-set_value_other n q apart r [] = refl
lookup-set_value_other n q apart r (e ∷ es) =
    bool_cases (nat_eq n e.0)
    (λ here.
    let not_here : nat_eq q e.0 ≡ false = ne_eqb q e.0 (λ same. apart (same ∙ sym (eqb-true n e.0 here))) in
    ap (λ b. lookup (nat_eq q) (cond b ((e.0, r) ∷ es) (e ∷ set_value (nat_eq n) es r))) here
    ∙ ap (λ b. cond b (Some r) (lookup (nat_eq q) es)) not_here
    ∙ sym (ap (λ b. cond b (Some e.1) (lookup (nat_eq q) es)) not_here))
    (λ past.
    ap (λ b. lookup (nat_eq q) (cond b ((e.0, r) ∷ es) (e ∷ set_value (nat_eq n) es r))) past
    ∙ ap (λ v. cond (nat_eq q e.0) (Some e.1) v) (lookup-set_value_other n q apart r es))

pub lookup-append_left : (q : ℕ) (r : Record) (es fs : List (ℕ × Record)) → lookup (nat_eq q) es ≡ Some r
    → lookup (nat_eq q) (es ++ fs) ≡ Some r
lookup-append_left q r [] fs at = cc
lookup-append_left q r (e ∷ es) fs at =
    bool_cases (nat_eq q e.0)
    (λ here. ap (λ b. cond b (Some e.1) (lookup (nat_eq q) (es ++ fs))) here
    ∙ sym (ap (λ b. cond b (Some e.1) (lookup (nat_eq q) es)) here) ∙ at)
    (λ past.
    ap (λ b. cond b (Some e.1) (lookup (nat_eq q) (es ++ fs))) past
    ∙ lookup-append_left q r es fs (sym (ap (λ b. cond b (Some e.1) (lookup (nat_eq q) es)) past) ∙ at))

pub lookup-append_right : (q : ℕ) (es fs : List (ℕ × Record)) → lookup (nat_eq q) es ≡ None
    → lookup (nat_eq q) (es ++ fs) ≡ lookup (nat_eq q) fs
lookup-append_right q [] fs at = refl
lookup-append_right q (e ∷ es) fs at =
    bool_cases (nat_eq q e.0)
    (λ here. let bad : Some e.1 ≡ None = sym (ap (λ b. cond b (Some e.1) (lookup (nat_eq q) es)) here) ∙ at in cc)
    (λ past.
    ap (λ b. cond b (Some e.1) (lookup (nat_eq q) (es ++ fs))) past
    ∙ lookup-append_right q es fs (sym (ap (λ b. cond b (Some e.1) (lookup (nat_eq q) es)) past) ∙ at))

-- ---- numbers
pub in_bounds : (low high n : ℕ) (r : Record) (es : List (ℕ × Record)) → IsRising low es high
    → lookup (nat_eq n) es ≡ Some r → (low ≤ n) × (n < high)
in_bounds low high n r [] rises at = absurd (let bad : None ≡ Some r = at in cc)
in_bounds low high n r (e ∷ es) rises at =
    bool_cases (nat_eq n e.0)
    (λ here. let same : n ≡ e.0 = eqb-true n e.0 here in let more : e.0 + 1 ≤ high =
    rising_span (e.0 + 1) high es rises.1 in (omega arith, omega arith))
    (λ past.
    let rest =
    in_bounds (e.0 + 1) high n r es rises.1 (sym (ap (λ b. cond b (Some e.1) (lookup (nat_eq n) es)) past) ∙ at) in
    (omega (arith, rest.0, rises.0), rest.1))
  where
    rising_span : (low high : ℕ) (es : List (ℕ × Record)) → IsRising low es high → low ≤ high
    rising_span low high [] rises = rises
    rising_span low high (e ∷ es) rises = let more = rising_span (e.0 + 1) high es rises.1 in
        omega (arith, more, rises.0)

pub IsRising-set_value : (low high n : ℕ) (r : Record) (es : List (ℕ × Record)) → IsRising low es high
    → IsRising low (set_value (nat_eq n) es r) high
IsRising-set_value low high n r [] rises = rises
IsRising-set_value low high n r (e ∷ es) rises =
    bool_cases (nat_eq n e.0)
    (λ here. subst (λ (b : Bool). IsRising low (cond b ((e.0, r) ∷ es) (e ∷ set_value (nat_eq n) es r)) high)
    (sym here) rises)
    (λ past. subst (λ (b : Bool). IsRising low (cond b ((e.0, r) ∷ es) (e ∷ set_value (nat_eq n) es r)) high) (sym past)
    (rises.0, IsRising-set_value (e.0 + 1) high n r es rises.1))

-- ---- nesting depends only on the keys
pub list_all-agree : {X : Type 0} (f g : X → Bool) → ((x : X) → f x ≡ g x) → (xs : List X)
    → list_all f xs ≡ list_all g xs
list_all-agree f g same [] = refl
list_all-agree f g same (x ∷ xs) = ap (λ b. b && list_all f xs) (same x)
    ∙ ap (λ b. g x && b) (list_all-agree f g same xs)

option_map_or-agree : (f g : Tree ℕ → Bool) → ((k : Tree ℕ) → f k ≡ g k) → (v : Option (Tree ℕ))
    → option_map_or f v true ≡ option_map_or g v true
option_map_or-agree f g same None = refl
option_map_or-agree f g same (Some k) = same k

pub nests-same : (w w' : State) → ((o : ℕ) → key_of w' o ≡ key_of w o) → (n : ℕ) (k : Tree ℕ)
    → nests w' n k ≡ nests w n k
nests-same w w' same zero k = refl
nests-same w w' same (suc n) k =
    list_all-agree _ _
    (λ o. ap (λ v. option_map_or (nests w' n) v true) (same o)
    ∙ option_map_or-agree (nests w' n) (nests w n) (λ k. nests-same w w' same n k) (key_of w o))
    (asks_of k)

pub option_map_or-agree_keys : (w w' : State) → ((o : ℕ) → key_of w' o ≡ key_of w o) → (n : ℕ) (v : Option (Tree ℕ))
    → option_map_or (nests w' n) v true ≡ option_map_or (nests w n) v true
option_map_or-agree_keys w w' same n v = option_map_or-agree (nests w' n) (nests w n) (λ k. nests-same w w' same n k) v

-- a test of the records, if the record of n keeps its result
pub list_all-set_value : (p : Record → Bool) (n : ℕ) (r old : Record) (es : List (ℕ × Record))
    → lookup (nat_eq n) es ≡ Some old → p r ≡ p old
    → list_all (λ e. p e.1) (set_value (nat_eq n) es r) ≡ list_all (λ e. p e.1) es
list_all-set_value p n r old [] at same = refl
list_all-set_value p n r old (e ∷ es) at same =
    bool_cases (nat_eq n e.0)
    (λ here.
    let found : Some e.1 ≡ Some old = sym (ap (λ b. cond b (Some e.1) (lookup (nat_eq n) es)) here) ∙ at in
    let is : e.1 ≡ old = cc in
    ap (λ b. list_all (λ e. p e.1) (cond b ((e.0, r) ∷ es) (e ∷ set_value (nat_eq n) es r))) here
    ∙ ap (λ b. b && list_all (λ e. p e.1) es) (same ∙ ap p (sym is)))
    (λ past.
    ap (λ b. list_all (λ e. p e.1) (cond b ((e.0, r) ∷ es) (e ∷ set_value (nat_eq n) es r))) past
    ∙ ap (λ b. p e.1 && b)
    (list_all-set_value p n r old es (sym (ap (λ b. cond b (Some e.1) (lookup (nat_eq n) es)) past) ∙ at) same))

-- ---- a record after sorted ones
-- the number above all others is no record's
pub unused : (n : ℕ) (es : List (ℕ × Record)) → IsRising 0 es n → lookup (nat_eq n) es ≡ None
unused n es rises =
    record_cases (lookup (nat_eq n) es)
    (λ e. e)
    (λ r e. let below = (in_bounds 0 n n r es rises e).1 in absurd (omega (arith, below)))

-- the record that was appended is removed again
pub remove-last : (n : ℕ) (r : Record) (es : List (ℕ × Record)) → lookup (nat_eq n) es ≡ None
    → remove_entry (nat_eq n) (es ++ (n, r) ∷ []) ≡ es
remove-last n r [] gone = ap (λ b. cond b [] ((n, r) ∷ [])) (eq-eqb n n refl)
remove-last n r (e ∷ es) gone =
    bool_cases (nat_eq n e.0)
    (λ here. let bad : Some e.1 ≡ None = sym (ap (λ b. cond b (Some e.1) (lookup (nat_eq n) es)) here) ∙ gone in cc)
    (λ past.
    ap (λ b. cond b (es ++ (n, r) ∷ []) (e ∷ remove_entry (nat_eq n) (es ++ (n, r) ∷ []))) past
    ∙ ap (λ v. e ∷ v) (remove-last n r es (sym (ap (λ b. cond b (Some e.1) (lookup (nat_eq n) es)) past) ∙ gone)))

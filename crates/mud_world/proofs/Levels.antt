-- A key that nests at most n has the same truth with n levels and with more.
use Rattle.std.proofs.Common.{◌≡◌, ℕ, zero, suc, Bool, true, false, cond, List, [], ◌∷◌, ◌++◌, Option, Some, None, refl}
use Rattle.std.proofs.Common.{sym, ◌∙◌, ap}
use Rattle.std.specs.Prelude.{nat_eq, not}
use Rattle.std.specs.Option.{option_map_or, option_and_then}
use Rattle.std.specs.List.{list_all, AllByRecursion}
use Rattle.std.specs.Map.{lookup}
use Rattle.std.proofs.lemmas.Bool.{and_parts, true≢false}
use Rattle.mud_key.specs.Tree.{Tree, Has, Asks, Not, Join, asks_of}
use Rattle.mud_world.specs.declared.record.Record.{Record}
use Rattle.mud_world.specs.Truth.{truth_of_join, key_true}
use Rattle.mud_world.specs.State.{State, record_at, key_of, within, unlocked_in, nests, unlocked}
use Rattle.mud_world.specs.Laws.{AreLevelsEnough}
use Rattle.mud_world.proofs.Records.{record_cases, bool_cases}

All-parts : (P : ℕ → Type 0) (xs ys : List ℕ) → AllByRecursion P (xs ++ ys) → AllByRecursion P xs × AllByRecursion P ys
All-parts P [] ys all = (tt, all)
All-parts P (x ∷ xs) ys all = let rest = All-parts P xs ys all.1 in ((all.0, rest.0), rest.1)

each-from : (p : ℕ → Bool) (P : ℕ → Type 0) → ((o : ℕ) → p o ≡ true → P o) → (xs : List ℕ) → list_all p xs ≡ true
    → AllByRecursion P xs
each-from p P f [] all = tt
each-from p P f (x ∷ xs) all = let parts = and_parts (p x) (list_all p xs) all in
    (f x parts.0, each-from p P f xs parts.1)

-- the truth of a key depends only on the objects that it asks about
same-truth : (held f g : ℕ → Bool) (k : Tree ℕ) → AllByRecursion (λ o. f o ≡ g o) (asks_of k)
    → key_true held f k ≡ key_true held g k
same-truth held f g (Has n) all = refl
same-truth held f g (Asks n) all = all.0
same-truth held f g (Not k) all = ap not (same-truth held f g k all)
same-truth held f g (Join op a b) all =
    let parts = All-parts (λ o. f o ≡ g o) (asks_of a) (asks_of b) all in
    ap (λ v. truth_of_join op v (key_true held f b)) (same-truth held f g a parts.0)
    ∙ ap (truth_of_join op (key_true held g a)) (same-truth held f g b parts.1)

-- the key in an option is true with n levels exactly if it is with one more
by_key : (w : State) (held : ℕ → Bool) (n : ℕ)
    (more : (k : Tree ℕ) → nests w n k ≡ true
    → key_true held (unlocked_in w n held) k ≡ key_true held (unlocked_in w (suc n) held) k) →
    (v : Option (Tree ℕ)) → option_map_or (nests w n) v true ≡ true
    → option_map_or (key_true held (unlocked_in w n held)) v true
    ≡ option_map_or (key_true held (unlocked_in w (suc n) held)) v true
by_key w held n more None nest = refl
by_key w held n more (Some k) nest = more k nest

asked : (w : State) (held : ℕ → Bool) (n : ℕ)
    (more : (k : Tree ℕ) → nests w n k ≡ true
    → key_true held (unlocked_in w n held) k ≡ key_true held (unlocked_in w (suc n) held) k)
    → (o : ℕ) → option_map_or (nests w n) (key_of w o) true ≡ true
    → unlocked_in w (suc n) held o ≡ unlocked_in w (suc (suc n)) held o
asked w held n more o nest =
    let before =
    λ (v : Option Record). option_map_or
    (λ r. option_map_or (key_true held (unlocked_in w n held)) r.key true) v false in
    let later =
    λ (v : Option Record). option_map_or
    (λ r. option_map_or (key_true held (unlocked_in w (suc n) held)) r.key true) v false in
    record_cases (record_at w o)
    (λ e. ap before e ∙ sym (ap later e))
    (λ r e. ap before e
    ∙ by_key w held n more r.key
    (sym (ap (λ v. option_map_or (nests w n) (option_and_then (λ r. r.key) v) true) e) ∙ nest) ∙ sym (ap later e))

stable : (w : State) (held : ℕ → Bool) (n : ℕ) (k : Tree ℕ) → nests w n k ≡ true
    → key_true held (unlocked_in w n held) k ≡ key_true held (unlocked_in w (suc n) held) k
stable w held zero k nest =
    same-truth held (unlocked_in w zero held) (unlocked_in w 1 held) k
    (each-from (λ o. false) (λ o. unlocked_in w zero held o ≡ unlocked_in w 1 held o)
    (λ o no. absurd (true≢false (sym no))) (asks_of k) nest)
stable w held (suc n) k nest =
    same-truth held (unlocked_in w (suc n) held) (unlocked_in w (suc (suc n)) held) k
    (each-from (λ o. option_map_or (nests w n) (key_of w o) true)
    (λ o. unlocked_in w (suc n) held o ≡ unlocked_in w (suc (suc n)) held o)
    (λ o is. asked w held n (λ k nest. stable w held n k nest) o is) (asks_of k) nest)

pub list_all-found : (p : Record → Bool) (n : ℕ) (r : Record) (es : List (ℕ × Record)) → lookup (nat_eq n) es ≡ Some r
    → list_all (λ e. p e.1) es ≡ true → p r ≡ true
list_all-found p n r [] at all = cc
list_all-found p n r (e ∷ es) at all =
    let parts = and_parts (p e.1) (list_all (λ e. p e.1) es) all in
    bool_cases (nat_eq n e.0)
    (λ here. let found : Some e.1 ≡ Some r = sym (ap (λ b. cond b (Some e.1) (lookup (nat_eq n) es)) here)
    ∙ at in let same : e.1 ≡ r = cc in sym (ap p same) ∙ parts.0)
    (λ past. list_all-found p n r es (sym (ap (λ b. cond b (Some e.1) (lookup (nat_eq n) es)) past) ∙ at) parts.1)

pub levels_law : AreLevelsEnough
levels_law = λ w sound c o.
    let held = λ (a : ℕ). within w a c in
    let before =
    λ (v : Option Record). option_map_or
    (λ r. option_map_or (key_true held (unlocked_in w 3 held)) r.key true) v false in
    let later =
    λ (v : Option Record). option_map_or (λ r. option_map_or (key_true held (unlocked w c)) r.key true) v false in
    record_cases (record_at w o)
    (λ e. ap before e ∙ sym (ap later e))
    (λ r e.
    let nest = list_all-found (λ r. option_map_or (nests w 3) r.key true) o r w.objects e sound.nesting in
    ap before e ∙ by_key w held 3 (λ k is. stable w held 3 k is) r.key nest ∙ sym (ap later e))

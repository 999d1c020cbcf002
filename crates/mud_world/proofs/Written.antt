-- Rewriting the results of level zero gives those of the next level.
use Rattle.std.proofs.Common.{◌≡◌, ℕ, ◌<◌, ◌≤◌, ◌||◌, Bool, true, false, List, [], ◌∷◌, length, set, get_or, Option}
use Rattle.std.proofs.Common.{Some, None, refl, sym, ◌∙◌, ap, arith, ⊎_elim}
use Rattle.std.specs.Prelude.{nat_eq, is_none}
use Rattle.std.specs.Option.{option_map_or, option_and_then}
use Rattle.std.specs.List.{list_any}
use Rattle.std.proofs.lemmas.Bool.{cases_lt, eqb-true, true≢false, eq-eqb}
use Rattle.std.proofs.lemmas.List.{get_or-set_other, length-set}
use Rattle.std.proofs.lemmas.Grind.{get_or-set_at}
use Rattle.mud_key.specs.Tree.{Tree}
use Rattle.mud_world.specs.declared.record.Record.{Record}
use Rattle.mud_world.specs.State.{State, has, record_at}
use Rattle.mud_world.specs.Sound.{IsSound}
use Rattle.mud_world.specs.inner.Answers.{IsPlain, answers_with}
use Rattle.mud_world.proofs.Records.{bool_cases}
use Rattle.mud_world.proofs.Carrying.{has-above, get_or-past}

length-written : (new : ℕ → Bool) (os : List ℕ) (answers : List Bool)
    → length (answers_with new os answers) ≡ length answers
length-written new [] answers = refl
length-written new (p ∷ os) answers = length-written new os (set answers p (new p)) ∙ length-set answers p (new p)

-- a rewritten result is new, and so is one that already had the new value
written-at : (new : ℕ → Bool) (os : List ℕ) (answers : List Bool) (o : ℕ) → o < length answers
    → (list_any (nat_eq o) os ≡ false → get_or answers o false ≡ new o)
    → get_or (answers_with new os answers) o false ≡ new o
written-at new [] answers o lt had = had refl
written-at new (p ∷ os) answers o lt had =
    written-at new os (set answers p (new p)) o (omega (arith, lt, length-set answers p (new p)))
    (λ none.
    bool_cases (nat_eq o p)
    (λ here.
    let same = eqb-true o p here in
    get_or-set_at answers p o (new p) false same (omega (arith, lt, same)) ∙ ap new (sym same))
    (λ past.
    get_or-set_other answers p o (new p) false (λ same. true≢false (sym (eq-eqb o p same) ∙ past))
    ∙ had (ap (λ b. b || list_any (nat_eq o) os) past ∙ none)))

-- an object without a key has the same result at all levels
by_key : (test : Tree ℕ → Bool) (k : Option (Tree ℕ)) → is_none k ≡ true → is_none k ≡ option_map_or test k true
by_key test None is = refl
by_key test (Some k) is = cc

by_record : (test : Tree ℕ → Bool) (v : Option Record) → is_none (option_and_then (λ r. r.key) v) ≡ true
    → option_map_or (λ r. is_none r.key) v false ≡ option_map_or (λ r. option_map_or test r.key true) v false
by_record test None is = refl
by_record test (Some r) is = by_key test r.key is

-- an object that is not in the list of locked ones has no key
pub keyless-key : (v : Option Record) → option_map_or (λ r. is_none r.key) v false ≡ true
    → is_none (option_and_then (λ r. r.key) v) ≡ true
keyless-key None is = refl
keyless-key (Some r) is = is

pub written-anew : (w : State) → IsSound w → (answers : List Bool) (locked : List ℕ) → IsPlain w answers locked
    → (test : Tree ℕ → Bool) (o : ℕ)
    → get_or (answers_with (λ o. has w o (λ r. option_map_or test r.key true)) locked answers) o false
    ≡ has w o (λ r. option_map_or test r.key true)
written-anew w sound answers locked is test o =
    let new = λ (o : ℕ). has w o (λ r. option_map_or test r.key true) in
    ⊎_elim
    (λ (lt : o < length answers). written-at new locked answers o lt
    (λ none. is.plain o ∙ by_record test (record_at w o) (is.keyless o none)))
    (λ (le : length answers ≤ o).
    get_or-past (answers_with new locked answers) o (omega (arith, le, length-written new locked answers))
    ∙ sym (has-above w sound o (omega (arith, le, is.long)) (λ r. option_map_or test r.key true)))
    (cases_lt o (length answers))

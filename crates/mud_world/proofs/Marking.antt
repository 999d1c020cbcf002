-- The gathered numbers are the holding, and their marks give the same results.
use Rattle.std.proofs.Common.{◌≡◌, ℕ, ◌+◌, ◌<◌, ◌≤◌, ◌&&◌, ◌||◌, Bool, true, false, List, [], ◌∷◌, ◌++◌}
use Rattle.std.proofs.Common.{length, set, get_or, Option, Some, None, refl, sym, ◌∙◌, ap, arith, ⊎_elim}
use Rattle.std.specs.Prelude.{nat_eq, is_some, is_none, slice_get}
use Rattle.std.specs.Option.{option_map_or}
use Rattle.std.specs.List.{list_any}
use Rattle.std.proofs.lemmas.Bool.{cases_lt, or_right, eqb-true, eq-eqb, true≢false}
use Rattle.std.proofs.lemmas.List.{get_or-set_other, length-set, get_or_past}
use Rattle.std.proofs.lemmas.List.Folds.{list_any-append}
use Rattle.std.proofs.lemmas.Grind.{get_or-set_at}
use Rattle.mud_key.specs.Tree.{Tree}
use Rattle.mud_world.specs.declared.limits.TheConstants.{NUMBERS}
use Rattle.mud_world.specs.declared.record.Record.{Record}
use Rattle.mud_world.specs.State.{State, contents_of, within, comes_to, unlocked, holds_for, has, record_at, IsHolding}
use Rattle.mud_world.specs.Sound.{IsSound}
use Rattle.mud_world.specs.inner.Marks.{mark_all}
use Rattle.mud_world.proofs.Records.{bool_cases}
use Rattle.mud_world.proofs.Carrying.{Gathers, get-front, or-false, or-more, gathers-on, missing-above}

-- ---- marks
marked-at : (os : List ℕ) (ms : List Bool) (o : ℕ) → o < length ms
    → get_or (mark_all os ms) o false ≡ (get_or ms o false || list_any (nat_eq o) os)
marked-at [] ms o lt = sym (or-false (get_or ms o false))
marked-at (p ∷ os) ms o lt =
    marked-at os (set ms p true) o (omega (arith, lt, length-set ms p true))
    ∙ ap (λ b. b || list_any (nat_eq o) os) one
    ∙ sym (or-more (get_or ms o false) (nat_eq o p) (list_any (nat_eq o) os))
  where
    one : get_or (set ms p true) o false ≡ (get_or ms o false || nat_eq o p)
    one =
        bool_cases (nat_eq o p)
        (λ here.
        let same = eqb-true o p here in
        get_or-set_at ms p o true false same (omega (arith, lt, same)) ∙ sym (or_right (get_or ms o false) _ here))
        (λ past.
        get_or-set_other ms p o true false (λ same. true≢false (sym (eq-eqb o p same) ∙ past))
        ∙ sym (ap (λ b. get_or ms o false || b) past ∙ or-false (get_or ms o false)))

length-marked : (os : List ℕ) (ms : List Bool) → length (mark_all os ms) ≡ length ms
length-marked [] ms = refl
length-marked (p ∷ os) ms = length-marked os (set ms p true) ∙ length-set ms p true

-- the marks of a holding say which objects are inside, if each given number has a mark
pub marks-within : (w : State) → IsSound w → (c : ℕ) (held : List ℕ) → IsHolding w c held → (ms : List Bool)
    → length ms ≡ NUMBERS → ((o : ℕ) → o < NUMBERS → get_or ms o false ≡ false)
    → (o : ℕ) → get_or (mark_all held ms) o false ≡ within w o c
marks-within w sound c held is ms long none o =
    let most = sound.limit in
    ⊎_elim
    (λ (lt : o < NUMBERS). marked-at held ms o (omega (arith, lt, long))
    ∙ ap (λ b. b || list_any (nat_eq o) held) (none o lt) ∙ is o)
    (λ (le : NUMBERS ≤ o).
    get_or_past (mark_all held ms) o false (omega (arith, le, long, length-marked held ms))
    ∙ sym (ap (λ v. is_some v && comes_to w w.next o c) (missing-above w sound o (omega (arith, le, most)))))
    (cases_lt o NUMBERS)

-- ---- gathering pushes each number once
pub gathered-on : (w : State) → IsSound w → (c : ℕ) (keys keys' : List ℕ) (i at : ℕ) → Gathers w c keys i
    → slice_get keys i ≡ Some at → i < length keys
    → keys' ≡ keys ++ contents_of w at → Gathers w c keys' (i + 1)
gathered-on w sound c keys keys' i at was here lt is =
    gathers-on w sound c keys keys' i at was here lt
    (λ j low. ap (λ v. slice_get v j) is ∙ get-front keys (contents_of w at) j low)
    (λ o. ap (list_any (nat_eq o)) is ∙ list_any-append (nat_eq o) keys (contents_of w at))

-- ---- an object without a key is unlocked
pub keyless-unlocked : (w : State) (c o : ℕ) → (has w o (λ r. is_none r.key) || unlocked w c o) ≡ unlocked w c o
keyless-unlocked w c o =
    let test = λ (k : Tree ℕ). holds_for w (λ a. within w a c) k 3 in
    by_record test (record_at w o)
  where
    by_key : (test : Tree ℕ → Bool) (k : Option (Tree ℕ))
        → (is_none k || option_map_or test k true) ≡ option_map_or test k true
    by_key test None = refl
    by_key test (Some k) = refl

    by_record : (test : Tree ℕ → Bool) (v : Option Record)
        → (option_map_or (λ r. is_none r.key) v false || option_map_or (λ r. option_map_or test r.key true) v false)
        ≡ option_map_or (λ r. option_map_or test r.key true) v false
    by_record test None = refl
    by_record test (Some r) = by_key test r.key

-- A world stays sound when an object gets a key, or loses it.
use Rattle.std.proofs.Common.{◌≡◌, ℕ, ◌<◌, ◌≤◌, Bool, true, false, not, ◌||◌, List, [], ◌∷◌, ◌++◌, Option, Some, None}
use Rattle.std.proofs.Common.{refl}
use Rattle.std.proofs.Common.{sym, ◌∙◌, ap, subst, arith, ⊎_elim, inl, inr}
use Rattle.std.specs.Prelude.{nat_eq, nat_lt, is_some, IsTrue}
use Rattle.std.specs.Option.{option_map_or, option_and_then}
use Rattle.std.specs.List.{list_all, list_any}
use Rattle.std.specs.Map.{set_value}
use Rattle.std.proofs.lemmas.Bool.{cases_eq, and_from, and_parts, or_parts, not-false, true≢false, ltb-false}
use Rattle.mud_key.specs.Tree.{Tree, Has, Asks, Not, Join, IsKey, AllObjects, objects_of, nots_of, atoms_of}
use Rattle.mud_key.specs.declared.limits.TheConstants.{LAST_NUMBER, MOST_OBJECTS, MOST_NOTS}
use Rattle.mud_world.specs.declared.record.Record.{Record}
use Rattle.mud_world.specs.declared.change.Deed.TheVariants.{Lock, Unlock}
use Rattle.mud_world.specs.Kinds.{is_player_kind}
use Rattle.mud_world.specs.State.{State, record_at, exists, key_of, nests, all_nest}
use Rattle.mud_world.specs.Sound.{IsSound}
use Rattle.mud_world.specs.Legal.{refusal}
use Rattle.mud_world.specs.inner.Fields.{with_record, with_key}
use Rattle.mud_world.specs.inner.CanGo.{CanKey}
use Rattle.mud_world.proofs.Records.{record_cases, bool_cases, in_bounds, lookup-set_value_same, lookup-set_value_other}
use Rattle.mud_world.proofs.Numbering.{set_here, set_past}
use Rattle.mud_world.proofs.Editing.{changed_by}
use Rattle.mud_world.proofs.Changing.{IsLike, sound-changed}
use Rattle.mud_world.proofs.Named.{all-implied}
use Rattle.mud_world.proofs.Naming.{named-same}
use Rattle.mud_world.proofs.Removing.{Fewer, all_nest-fewer}
use Rattle.mud_world.proofs.Going.{nothing_fails}

abbrev pub with_this_key : Option (Tree ℕ) → Record → Record
with_this_key key r = record r { key = key }

pub found : (w : State) (n : ℕ) → exists w n ≡ true → (r : Record) × (record_at w n ≡ Some r)
found w n there =
    record_cases (record_at w n)
    (λ e. absurd (true≢false (sym there ∙ ap is_some e)))
    (λ r e. (r, e))

pub sound-keyed : (w : State) → IsSound w → (n : ℕ) (key : Option (Tree ℕ)) → CanKey w n key
    → IsSound (with_key w n key)
sound-keyed w sound n key can =
    let it = found w n can.there in
    let r = it.0 in
    let is = changed_by w n (with_this_key key) r it.1 in
    let like : IsLike w r (with_this_key key r) = record {
      room = refl;
      exit = refl;
      place = refl;
      well = sound.placed n r it.1;
      keyless =
          λ place e. absurd
          (true≢false
          (sym (ap is_player_kind e) ∙ sym (ap (λ v. option_map_or (λ r. is_player_kind r.kind) v false) it.1)
          ∙ can.no_player));
      locked = can.limits;
      made = can.made;
    } in
    subst IsSound (sym is)
    (sound-changed w sound n r (with_this_key key r) it.1 like
    (subst (λ (v : State). IsTrue (all_nest v)) is can.nesting)
    (named-same w n r (with_this_key key r) sound.named it.1 refl refl))

list_all-set : (p : Record → Bool) (n : ℕ) (r : Record) (es : List (ℕ × Record)) → p r ≡ true
    → list_all (λ e. p e.1) es ≡ true → list_all (λ e. p e.1) (set_value (nat_eq n) es r) ≡ true
list_all-set p n r [] new all = refl
list_all-set p n r (e ∷ es) new all =
    let parts = and_parts (p e.1) (list_all (λ e. p e.1) es) all in
    bool_cases (nat_eq n e.0)
    (λ here. ap (list_all (λ e. p e.1)) (set_here n r e es here) ∙ and_from _ _ new parts.1)
    (λ past. ap (list_all (λ e. p e.1)) (set_past n r e es past)
    ∙ and_from _ _ parts.0 (list_all-set p n r es new parts.1))

-- removing a key makes no key nest deeper
nesting-unlocked : (w : State) → IsSound w → (n : ℕ) (r : Record) → record_at w n ≡ Some r
    → all_nest (with_key w n None) ≡ true
nesting-unlocked w sound n r at =
    let w' = with_record w n (with_this_key None r) in
    let fewer : Fewer w w' = λ o.
    ⊎_elim
    (λ (e : o ≡ n). inr
    (ap (key_of w') e
    ∙ ap (option_and_then (λ r. r.key)) (lookup-set_value_same n (with_this_key None r) r w.objects at)))
    (λ apart. inl
    (ap (option_and_then (λ r. r.key)) (lookup-set_value_other n o apart (with_this_key None r) w.objects)))
    (cases_eq o n) in
    ap all_nest (changed_by w n (with_this_key None) r at)
    ∙ all_nest-fewer w w' fewer w'.objects
    (list_all-set (λ r. option_map_or (nests w 3) r.key true) n (with_this_key None r) w.objects refl sound.nesting)

pub CanKey-unlock : (w : State) → IsSound w → (a n : ℕ) → refusal w (record { actor = a; deed = Unlock n }) ≡ None
    → CanKey w n None
CanKey-unlock w sound a n legal =
    let none_holds = nothing_fails w (record { actor = a; deed = Unlock n }) legal in
    let there = not-false _ (or_parts _ _ none_holds.0).1 in
    let it = found w n there in
    record {
      there = there;
      no_player = (or_parts _ _ none_holds.1.0).1;
      limits = tt;
      made = tt;
      nesting = nesting-unlocked w sound n it.0 it.1;
    }

-- ---- a legal key
any-parts : (p : ℕ → Bool) (xs ys : List ℕ) → list_any p (xs ++ ys) ≡ false
    → (list_any p xs ≡ false) × (list_any p ys ≡ false)
any-parts p [] ys none = (refl, none)
any-parts p (x ∷ xs) ys none =
    let parts = or_parts (p x) (list_any p (xs ++ ys)) none in
    let rest = any-parts p xs ys parts.1 in
    (ap (λ b. b || list_any p xs) parts.0 ∙ rest.0, rest.1)

number-below : (w : State) → IsSound w → (n : ℕ) → list_any (λ o. not (exists w o)) (n ∷ []) ≡ false → n < w.next
number-below w sound n none =
    let it = found w n (not-false _ (or_parts (not (exists w n)) false none).0) in
    (in_bounds 0 w.next n it.0 w.objects sound.rising it.1).1

numbers-below : (w : State) → IsSound w → (key : Tree ℕ) → list_any (λ o. not (exists w o)) (atoms_of key) ≡ false
    → AllObjects (λ n. n < w.next) key
numbers-below w sound (Has n) none = number-below w sound n none
numbers-below w sound (Asks n) none = number-below w sound n none
numbers-below w sound (Not k) none = numbers-below w sound k none
numbers-below w sound (Join op a b) none =
    let parts = any-parts _ (atoms_of a) (atoms_of b) none in
    (numbers-below w sound a parts.0, numbers-below w sound b parts.1)

key-within : (w : State) → IsSound w → (key : Tree ℕ)
    → (list_any (λ o. not (exists w o)) (atoms_of key)
    || (nat_lt MOST_OBJECTS (objects_of key) || nat_lt MOST_NOTS (nots_of key))) ≡ false → IsKey key
key-within w sound key good =
    let parts = or_parts (list_any (λ o. not (exists w o)) (atoms_of key)) _ good in
    let counts = or_parts (nat_lt MOST_OBJECTS (objects_of key)) (nat_lt MOST_NOTS (nots_of key)) parts.1 in
    record {
      limits = record {
        objects = ltb-false MOST_OBJECTS (objects_of key) counts.0;
        nots = ltb-false MOST_NOTS (nots_of key) counts.1;
      };
      numbers = all-implied (λ n. n < w.next) (λ n. n ≤ LAST_NUMBER)
          (λ n below. let limit = sound.limit in omega (arith, below, limit)) key (numbers-below w sound key parts.0);
    }

pub CanKey-lock : (w : State) → IsSound w → (a n : ℕ) (key : Tree ℕ)
    → refusal w (record { actor = a; deed = Lock n key }) ≡ None → CanKey w n (Some key)
CanKey-lock w sound a n key legal =
    let none_holds = nothing_fails w (record { actor = a; deed = Lock n key }) legal in
    record {
      there = not-false _ (or_parts _ _ none_holds.0).1;
      no_player = (or_parts _ _ none_holds.1.0).1;
      limits = key-within w sound key none_holds.1.1.1.1.1.1.0;
      made = numbers-below w sound key (or_parts _ _ none_holds.1.1.1.1.1.1.0).0;
      nesting = not-false _ none_holds.1.1.1.1.1.1.1.0;
    }

-- A world stays sound when an object without uses is removed.
use Rattle.std.proofs.Common.{◌≡◌, ◌≢◌, ℕ, zero, suc, ◌+◌, ◌<◌, ◌≤◌, Bool, true, false, cond, List, [], ◌∷◌, Option}
use Rattle.std.proofs.Common.{Some, None, refl, sym, ◌∙◌, ap, subst, arith, ⊎_elim, ◌⊎◌, inl, inr}
use Rattle.std.specs.Prelude.{nat_eq, is_some}
use Rattle.std.specs.Option.{option_map_or, option_and_then}
use Rattle.std.specs.List.{list_all}
use Rattle.std.specs.Map.{lookup, remove_entry}
use Rattle.std.proofs.lemmas.Bool.{cases_eq, eqb-true, ne_eqb, and_from, and_parts}
use Rattle.mud_key.specs.Tree.{Tree, asks_of}
use Rattle.mud_world.specs.declared.record.Record.{Record}
use Rattle.mud_world.specs.declared.record.Kind.{Kind}
use Rattle.mud_world.specs.declared.record.Kind.TheVariants.{Room, Exit, Thing, Player}
use Rattle.mud_world.specs.Kinds.{kind_place}
use Rattle.mud_world.specs.State.{State, record_at, place_of, key_of, nests, has, is_room_kind, is_exit_kind, follow}
use Rattle.mud_world.specs.Sound.{IsSound, IsRising, IsPlacedWell}
use Rattle.mud_world.specs.inner.Fields.{without_object}
use Rattle.mud_world.specs.inner.CanGo.{IsOff, CanRemove}
use Rattle.mud_world.proofs.Records.{bool_cases}
use Rattle.mud_world.proofs.Naming.{named-kept}
use Rattle.mud_world.proofs.Places.{option_cases, follow_by, no_circle-from_end}
use Rattle.mud_world.proofs.Moving.{ends_before}

-- ---- keys: removing keys makes no key nest deeper
list_all-implied : {X : Type 0} (f g : X → Bool) → ((x : X) → f x ≡ true → g x ≡ true) → (xs : List X)
    → list_all f xs ≡ true → list_all g xs ≡ true
list_all-implied f g more [] all = refl
list_all-implied f g more (x ∷ xs) all =
    let parts = and_parts (f x) (list_all f xs) all in
    and_from _ _ (more x parts.0) (list_all-implied f g more xs parts.1)

-- each object keeps its key or has none
abbrev pub Fewer : State → State → Type 0
Fewer w w' = (o : ℕ) → (key_of w' o ≡ key_of w o) ⊎ (key_of w' o ≡ None)

option_map_or-implied : (f g : Tree ℕ → Bool) → ((k : Tree ℕ) → f k ≡ true → g k ≡ true) → (v : Option (Tree ℕ))
    → option_map_or f v true ≡ true → option_map_or g v true ≡ true
option_map_or-implied f g more None is = refl
option_map_or-implied f g more (Some k) is = more k is

pub nests-fewer : (w w' : State) → Fewer w w' → (n : ℕ) (k : Tree ℕ) → nests w n k ≡ true → nests w' n k ≡ true
nests-fewer w w' fewer zero k is = is
nests-fewer w w' fewer (suc n) k is =
    list_all-implied _ _
    (λ o holds.
    ⊎_elim
    (λ (same : key_of w' o ≡ key_of w o).
    ap (λ v. option_map_or (nests w' n) v true) same
    ∙ option_map_or-implied (nests w n) (nests w' n) (λ k. nests-fewer w w' fewer n k) (key_of w o) holds)
    (λ gone. ap (λ v. option_map_or (nests w' n) v true) gone)
    (fewer o))
    (asks_of k) is

pub all_nest-fewer : (w w' : State) → Fewer w w' → (es : List (ℕ × Record))
    → list_all (λ e. option_map_or (nests w 3) e.1.key true) es ≡ true
    → list_all (λ e. option_map_or (nests w' 3) e.1.key true) es ≡ true
all_nest-fewer w w' fewer es all =
    list_all-implied _ _
    (λ e is. option_map_or-implied (nests w 3) (nests w' 3) (λ k. nests-fewer w w' fewer 3 k) e.1.key is) es all

-- ---- the list without an entry
list_all-remove : (p : ℕ × Record → Bool) (n : ℕ) (es : List (ℕ × Record)) → list_all p es ≡ true
    → list_all p (remove_entry (nat_eq n) es) ≡ true
list_all-remove p n [] all = refl
list_all-remove p n (e ∷ es) all =
    let parts = and_parts (p e) (list_all p es) all in
    bool_cases (nat_eq n e.0)
    (λ here. ap (λ b. list_all p (cond b es (e ∷ remove_entry (nat_eq n) es))) here ∙ parts.1)
    (λ past. ap (λ b. list_all p (cond b es (e ∷ remove_entry (nat_eq n) es))) past
    ∙ and_from _ _ parts.0 (list_all-remove p n es parts.1))

IsRising-lower : (low low' high : ℕ) (es : List (ℕ × Record)) → low' ≤ low → IsRising low es high
    → IsRising low' es high
IsRising-lower low low' high [] le rises = omega (arith, rises)
IsRising-lower low low' high (e ∷ es) le rises = (omega (arith, rises.0), rises.1)

IsRising-remove : (low high n : ℕ) (es : List (ℕ × Record)) → IsRising low es high
    → IsRising low (remove_entry (nat_eq n) es) high
IsRising-remove low high n [] rises = rises
IsRising-remove low high n (e ∷ es) rises =
    bool_cases (nat_eq n e.0)
    (λ here. subst (λ (b : Bool). IsRising low (cond b es (e ∷ remove_entry (nat_eq n) es)) high) (sym here)
    (IsRising-lower (e.0 + 1) low high es (let le = rises.0 in omega (arith, le)) rises.1))
    (λ past. subst (λ (b : Bool). IsRising low (cond b es (e ∷ remove_entry (nat_eq n) es)) high) (sym past)
    (rises.0, IsRising-remove (e.0 + 1) high n es rises.1))

pub lookup-remove_other : (n q : ℕ) → q ≢ n → (es : List (ℕ × Record))
    → lookup (nat_eq q) (remove_entry (nat_eq n) es) ≡ lookup (nat_eq q) es
lookup-remove_other n q apart [] = refl
lookup-remove_other n q apart (e ∷ es) =
    bool_cases (nat_eq n e.0)
    (λ here.
    let not_here : nat_eq q e.0 ≡ false = ne_eqb q e.0 (λ same. apart (same ∙ sym (eqb-true n e.0 here))) in
    ap (λ b. lookup (nat_eq q) (cond b es (e ∷ remove_entry (nat_eq n) es))) here
    ∙ sym (ap (λ b. cond b (Some e.1) (lookup (nat_eq q) es)) not_here))
    (λ past.
    ap (λ b. lookup (nat_eq q) (cond b es (e ∷ remove_entry (nat_eq n) es))) past
    ∙ ap (λ v. cond (nat_eq q e.0) (Some e.1) v) (lookup-remove_other n q apart es))

-- a number below all others is not found
pub lookup-below : (n low high : ℕ) (es : List (ℕ × Record)) → IsRising low es high → n < low
    → lookup (nat_eq n) es ≡ None
lookup-below n low high [] rises lt = refl
lookup-below n low high (e ∷ es) rises lt =
    ap (λ b. cond b (Some e.1) (lookup (nat_eq n) es)) (ne_eqb n e.0 (λ same. let le = rises.0 in omega (arith, le)))
    ∙ lookup-below n (e.0 + 1) high es rises.1 (let le = rises.0 in omega (arith, le))

pub lookup-remove_same : (n low high : ℕ) (es : List (ℕ × Record)) → IsRising low es high
    → lookup (nat_eq n) (remove_entry (nat_eq n) es) ≡ None
lookup-remove_same n low high [] rises = refl
lookup-remove_same n low high (e ∷ es) rises =
    bool_cases (nat_eq n e.0)
    (λ here.
    let same = eqb-true n e.0 here in
    ap (λ b. lookup (nat_eq n) (cond b es (e ∷ remove_entry (nat_eq n) es))) here
    ∙ lookup-below n (e.0 + 1) high es rises.1 (omega (arith, same)))
    (λ past.
    ap (λ b. lookup (nat_eq n) (cond b es (e ∷ remove_entry (nat_eq n) es))) past
    ∙ ap (λ b. cond b (Some e.1) (lookup (nat_eq n) (remove_entry (nat_eq n) es))) past
    ∙ lookup-remove_same n (e.0 + 1) high es rises.1)

-- ---- the world without object n
module _ (w : State) (sound : IsSound w) (n : ℕ) (can : CanRemove w n) where
  abbrev w' : State
  w' = without_object w n

  gone : record_at w' n ≡ None
  gone = lookup-remove_same n 0 w.next w.objects sound.rising

  there : (q : ℕ) → q ≢ n → record_at w' q ≡ record_at w q
  there q apart = lookup-remove_other n q apart w.objects

  old_at : (q : ℕ) (r : Record) → record_at w' q ≡ Some r → record_at w q ≡ Some r
  old_at q r at =
      ⊎_elim
      (λ (e : q ≡ n). let bad : None ≡ Some r = sym gone ∙ ap (record_at w') (sym e) ∙ at in absurd (cc))
      (λ apart. sym (there q apart) ∙ at)
      (cases_eq q n)

  has_kept : (test : Record → Bool) (q : ℕ) → q ≢ n → has w' q test ≡ has w q test
  has_kept test q apart = ap (λ v. option_map_or test v false) (there q apart)

  well_kept : (k : Kind) → IsOff n k → IsPlacedWell w k → IsPlacedWell w' k
  well_kept Room off well = tt
  well_kept (Exit p) off well = (
    has_kept (λ r. is_room_kind r.kind) p.source off.0
        ∙ well.0,
    has_kept (λ r. is_room_kind r.kind) p.destination off.1 ∙ well.1,
    well.2,
  )
  well_kept (Thing p) off well = (ap is_some (there p off) ∙ well.0, has_kept (λ r. is_exit_kind r.kind) p off ∙ well.1)
  well_kept (Player p) off well = has_kept (λ r. is_room_kind r.kind) p off ∙ well

  ends_kept : (k a : ℕ) → follow w k a ≡ None → (m : ℕ) × (follow w' m a ≡ None)
  ends_kept zero a ends = absurd (let bad : Some a ≡ None = ends in cc)
  ends_kept (suc k) a ends =
      ⊎_elim
      (λ (e : a ≡ n).
      (1, follow_by w' 0 a None (ap (option_and_then (λ r. kind_place r.kind)) (ap (record_at w') e ∙ gone))))
      (λ apart.
      let same : place_of w' a ≡ place_of w a = ap (option_and_then (λ r. kind_place r.kind)) (there a apart) in
      option_cases (place_of w a)
      (λ e. (1, follow_by w' 0 a None (same ∙ e)))
      (λ p e.
      let rest = ends_kept k p (sym (follow_by w k a (Some p) e) ∙ ends) in
      (suc rest.0, follow_by w' rest.0 a (Some p) (same ∙ e) ∙ rest.1)))
      (cases_eq a n)

  fewer : Fewer w w'
  fewer o =
      ⊎_elim
      (λ (e : o ≡ n). inr (ap (option_and_then (λ r. r.key)) (ap (record_at w') e ∙ gone)))
      (λ apart. inl (ap (option_and_then (λ r. r.key)) (there o apart)))
      (cases_eq o n)

  pub sound-removed : IsSound w'
  sound-removed = record {
    rising = IsRising-remove 0 w.next n w.objects sound.rising;
    limit = sound.limit;
    placed = λ q r at. let old = old_at q r at in well_kept r.kind (can.unused q r old) (sound.placed q r old);
    no_circle = λ m k. let first = ends_before w sound m in let ends = ends_kept first.0 m first.1 in
        no_circle-from_end w' ends.0 m k ends.1;
    keyless = λ q r at. sound.keyless q r (old_at q r at);
    locked = λ q r at. sound.locked q r (old_at q r at);
    made = λ q r at. sound.made q r (old_at q r at);
    nesting = all_nest-fewer w w' fewer w'.objects (list_all-remove _ n w.objects sound.nesting);
    hall = has_kept (λ r. is_room_kind r.kind) 0 (λ e. can.other (sym e)) ∙ sound.hall;
    named = named-kept w w' sound.named (λ q s at player. (s, old_at q s at, player, refl));
  }

-- A world stays sound when objects are added.
use Rattle.std.proofs.Common.{◌≡◌, ℕ, zero, suc, ◌+◌, ◌<◌, ◌≤◌, Bool, true, false, cond, List, [], ◌∷◌, ◌++◌, length}
use Rattle.std.proofs.Common.{Some}
use Rattle.std.proofs.Common.{None, refl, sym, ◌∙◌, ap, subst, arith}
use Rattle.std.specs.Prelude.{nat_eq, is_some, IfSome}
use Rattle.std.specs.Option.{option_map_or, option_and_then}
use Rattle.std.specs.List.{enumerate_from, list_all}
use Rattle.std.specs.Map.{lookup}
use Rattle.std.proofs.lemmas.Bool.{and_from, and_parts, true≢false, ne_eqb}
use Rattle.mud_key.specs.Tree.{IsKey, AllObjects}
use Rattle.mud_world.specs.declared.limits.TheConstants.{NUMBERS}
use Rattle.mud_world.specs.declared.record.Record.{Record}
use Rattle.mud_world.specs.declared.record.Kind.{Kind}
use Rattle.mud_world.specs.declared.record.Kind.TheVariants.{Room, Exit, Thing, Player}
use Rattle.mud_world.specs.Kinds.{kind_place, is_room_kind, is_exit_kind}
use Rattle.mud_world.specs.State.{State, record_at, exists, has, is_room, is_exit, place_of, key_of, nests, follow}
use Rattle.mud_world.specs.Sound.{IsSound, IsRising, IsPlacedWell}
use Rattle.mud_world.specs.inner.Fields.{AreNamedApart}
use Rattle.mud_world.specs.Legal.{with_new}
use Rattle.mud_world.specs.inner.CanGo.{IsNew}
use Rattle.mud_world.proofs.Named.{some-implied}
use Rattle.mud_world.proofs.Records.{record_cases, in_bounds, lookup-append_left, lookup-append_right}
use Rattle.mud_world.proofs.Records.{option_map_or-agree_keys, list_all-agree}
use Rattle.mud_world.proofs.Places.{option_cases, follow_by, no_circle-from_end, ends_by-bound}
use Rattle.mud_world.proofs.Moving.{place-below}

IsRising-append : (low mid high : ℕ) (es fs : List (ℕ × Record)) → IsRising low es mid → IsRising mid fs high
    → IsRising low (es ++ fs) high
IsRising-append low mid high [] fs first second = weaker fs first second
  where
    weaker : (fs : List (ℕ × Record)) → low ≤ mid → IsRising mid fs high → IsRising low fs high
    weaker [] le rises = omega (arith, rises)
    weaker (f ∷ fs) le rises = (omega (arith, rises.0), rises.1)
IsRising-append low mid high (e ∷ es) fs first second =
    (first.0, IsRising-append (e.0 + 1) mid high es fs first.1 second)

pub IsRising-numbered : (n : ℕ) (rs : List Record) → IsRising n (enumerate_from n rs) (n + length rs)
IsRising-numbered n [] = omega arith
IsRising-numbered n (r ∷ rs) = (
  omega arith,
  subst (λ (m : ℕ). IsRising (n + 1) (enumerate_from (n + 1) rs) m) (omega arith)
      (IsRising-numbered (n + 1) rs),
)

module _ (w : State) (sound : IsSound w) (rs : List Record) (room : w.next + length rs ≤ NUMBERS) where
  abbrev w' : State
  w' = with_new w rs

  module _ (new : (n : ℕ) (r : Record) → lookup (nat_eq n) (enumerate_from w.next rs) ≡ Some r → IsNew w w' r) where
    old_at : (n : ℕ) (r : Record) → record_at w n ≡ Some r → record_at w' n ≡ Some r
    old_at n r at = lookup-append_left n r w.objects (enumerate_from w.next rs) at

    new_at : (n : ℕ) → record_at w n ≡ None → record_at w' n ≡ lookup (nat_eq n) (enumerate_from w.next rs)
    new_at n at = lookup-append_right n w.objects (enumerate_from w.next rs) at

    -- an object of the new world is an old one or the new one
    either_at : {P : Type 0} (n : ℕ) (r : Record) → record_at w' n ≡ Some r → (record_at w n ≡ Some r → P)
        → (record_at w n ≡ None → IsNew w w' r → P) → P
    either_at n r at f g =
        record_cases (record_at w n)
        (λ e. g e (new n r (sym (new_at n e) ∙ at)))
        (λ s e. let same : Some s ≡ Some r = sym (old_at n s e) ∙ at in f (e ∙ same))

    kept_has : (test : Record → Bool) (n : ℕ) → has w n test ≡ true → has w' n test ≡ true
    kept_has test n is =
        record_cases (record_at w n)
        (λ e. absurd (true≢false (sym is ∙ ap (λ v. option_map_or test v false) e)))
        (λ r e. ap (λ v. option_map_or test v false) (old_at n r e) ∙ sym (ap (λ v. option_map_or test v false) e) ∙ is)

    kept_exists : (n : ℕ) → exists w n ≡ true → exists w' n ≡ true
    kept_exists n is =
        record_cases (record_at w n)
        (λ e. absurd (true≢false (sym is ∙ ap is_some e)))
        (λ r e. ap is_some (old_at n r e))

    kept_exit : (n : ℕ) → exists w n ≡ true → is_exit w n ≡ false → is_exit w' n ≡ false
    kept_exit n there is =
        record_cases (record_at w n)
        (λ e. absurd (true≢false (sym there ∙ ap is_some e)))
        (λ r e. ap (λ v. option_map_or (λ r. is_exit_kind r.kind) v false) (old_at n r e)
        ∙ sym (ap (λ v. option_map_or (λ r. is_exit_kind r.kind) v false) e) ∙ is)

    kept_well : (k : Kind) → IsPlacedWell w k → IsPlacedWell w' k
    kept_well Room well = tt
    kept_well (Exit p) well = (
      kept_has (λ r. is_room_kind r.kind) p.source well.0,
      kept_has
          (λ r. is_room_kind r.kind) p.destination well.1,
      well.2,
    )
    kept_well (Thing p) well = (kept_exists p well.0, kept_exit p well.0 well.1)
    kept_well (Player p) well = kept_has (λ r. is_room_kind r.kind) p well

    place_exists : (k : Kind) (p : ℕ) → IsPlacedWell w k → kind_place k ≡ Some p → exists w p ≡ true
    place_exists Room p well e = absurd (let bad : None ≡ Some p = e in cc)
    place_exists (Exit x) p well e = absurd (let bad : None ≡ Some p = e in cc)
    place_exists (Thing q) p well e = let same : q ≡ p = cc in subst (λ (v : ℕ). exists w v ≡ true) same well.0
    place_exists (Player q) p well e =
        let same : q ≡ p = cc in
        record_cases (record_at w p)
        (λ f. absurd
        (true≢false
        (sym well ∙ ap (is_room w) same ∙ ap (λ v. option_map_or (λ r. is_room_kind r.kind) v false) f)))
        (λ r f. ap is_some f)

    -- chains of old objects stay as they were
    ends_kept : (n a : ℕ) → exists w a ≡ true → follow w n a ≡ None → follow w' n a ≡ None
    ends_kept zero a there ends = cc
    ends_kept (suc n) a there ends =
        record_cases (record_at w a)
        (λ e. absurd (true≢false (sym there ∙ ap is_some e)))
        (λ r e.
        let was : place_of w a ≡ kind_place r.kind = ap (option_and_then (λ r. kind_place r.kind)) e in
        let is : place_of w' a ≡ kind_place r.kind = ap (option_and_then (λ r. kind_place r.kind)) (old_at a r e) in
        option_cases (kind_place r.kind)
        (λ f. follow_by w' n a None (is ∙ f))
        (λ p f.
        follow_by w' n a (Some p) (is ∙ f)
        ∙ ends_kept n p (place_exists r.kind p (sound.placed a r e) f)
        (sym (follow_by w n a (Some p) (was ∙ f)) ∙ ends)))

    old_ends : (a : ℕ) → exists w a ≡ true → (n : ℕ) × (follow w' n a ≡ None)
    old_ends a there =
        record_cases (record_at w a)
        (λ e. absurd (true≢false (sym there ∙ ap is_some e)))
        (λ r e. (
          w.next,
          ends_kept w.next a there
              (ends_by-bound w w.next (place-below w sound) sound.no_circle a
              (in_bounds 0 w.next a r w.objects sound.rising e).1),
        ))

    all_end : (a : ℕ) → (n : ℕ) × (follow w' n a ≡ None)
    all_end a =
        record_cases (record_at w' a)
        (λ e. (1, follow_by w' 0 a None (ap (option_and_then (λ r. kind_place r.kind)) e)))
        (λ r e.
        either_at a r e
        (λ old. old_ends a (ap is_some old))
        (λ gone is.
        option_cases (kind_place r.kind)
        (λ f. (1, follow_by w' 0 a None (ap (option_and_then (λ r. kind_place r.kind)) e ∙ f)))
        (λ p f.
        let rest = old_ends p (is.place p f) in
        (suc rest.0, follow_by w' rest.0 a (Some p) (ap (option_and_then (λ r. kind_place r.kind)) e ∙ f) ∙ rest.1))))

    same_key : (o : ℕ) → key_of w' o ≡ key_of w o
    same_key o =
        record_cases (record_at w o)
        (λ e.
        record_cases (record_at w' o)
        (λ f. ap (option_and_then (λ r. r.key)) f ∙ sym (ap (option_and_then (λ r. r.key)) e))
        (λ r f. ap (option_and_then (λ r. r.key)) f ∙ (new o r (sym (new_at o e) ∙ f)).keyless
        ∙ sym (ap (option_and_then (λ r. r.key)) e)))
        (λ r e. ap (option_and_then (λ r. r.key)) (old_at o r e) ∙ sym (ap (option_and_then (λ r. r.key)) e))

    nest_new : (m : ℕ) (fs : List Record)
        → ((n : ℕ) (r : Record) → lookup (nat_eq n) (enumerate_from m fs) ≡ Some r → r.key ≡ None)
        → list_all (λ e. option_map_or (nests w' 3) e.1.key true) (enumerate_from m fs) ≡ true
    nest_new m [] none = refl
    nest_new m (r ∷ fs) none =
        and_from _ _
        (ap (λ v. option_map_or (nests w' 3) v true)
        (none m r (ap (λ b. cond b (Some r) (lookup (nat_eq m) (enumerate_from (m + 1) fs))) (eq_self m))))
        (nest_new (m + 1) fs (λ n s at.
        let above =
        (in_bounds (m + 1) (m + 1 + length fs) n s (enumerate_from (m + 1) fs) (IsRising-numbered (m + 1) fs) at).0
        in
        none n s (ap (λ b. cond b (Some r) (lookup (nat_eq n) (enumerate_from (m + 1) fs)))
        (ne_eqb n m (λ same. omega (arith, above, same))) ∙ at)))
      where
        eq_self : (m : ℕ) → nat_eq m m ≡ true
        eq_self m = grind arith

    list_all-append : (p : ℕ × Record → Bool) (es fs : List (ℕ × Record)) → list_all p es ≡ true → list_all p fs ≡ true
        → list_all p (es ++ fs) ≡ true
    list_all-append p [] fs first second = second
    list_all-append p (e ∷ es) fs first second =
        let parts = and_parts (p e) (list_all p es) first in
        and_from _ _ parts.0 (list_all-append p es fs parts.1 second)

    pub sound-new : AreNamedApart w' → IsSound w'
    sound-new named = record {
      rising = IsRising-append 0 w.next (w.next + length rs) w.objects (enumerate_from w.next rs) sound.rising
          (IsRising-numbered w.next rs);
      limit = room;
      placed = λ n r at. either_at n r at (λ old. kept_well r.kind (sound.placed n r old)) (λ gone is. is.well);
      no_circle = λ m k. let ends = all_end m in no_circle-from_end w' ends.0 m k ends.1;
      keyless = λ n r at. either_at n r at (λ old. sound.keyless n r old) (λ gone is place e. is.keyless);
      locked = λ n r at. either_at n r at (λ old. sound.locked n r old)
          (λ gone is. subst (λ k. IfSome k IsKey) (sym is.keyless) tt);
      made = λ n r at. either_at n r at
          (λ old. some-implied (λ o. o < w.next) (λ o. o < w.next + length rs) (λ o lt. omega (arith, lt)) r.key
          (sound.made n r old))
          (λ gone is. subst (λ k. IfSome k (AllObjects (λ o. o < w.next + length rs))) (sym is.keyless) tt);
      nesting =
          list_all-append _ w.objects (enumerate_from w.next rs)
          (list_all-agree _ _ (λ e. option_map_or-agree_keys w w' same_key 3 e.1.key) w.objects ∙ sound.nesting)
          (nest_new w.next rs (λ n r at. (new n r at).keyless));
      named = named;
      hall = kept_has (λ r. is_room_kind r.kind) 0 sound.hall;
    }

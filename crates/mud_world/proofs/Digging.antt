-- The objects that a dig adds one at a time, and the result of removing one again.
use Rattle.std.proofs.Common.{◌≡◌, ℕ, ◌+◌, ◌-◌, ◌<◌, ◌≤◌, Bool, true, false, cond, List, [], ◌∷◌, ◌++◌, length, Option}
use Rattle.std.proofs.Common.{Some, None, refl, sym, ◌∙◌, ap, subst, arith}
use Rattle.std.specs.Prelude.{nat_eq, unwrap_or}
use Rattle.std.specs.Option.{option_map_or, option_and_then}
use Rattle.std.specs.List.{AllByRecursion, enumerate_from}
use Rattle.std.specs.Map.{remove_entry}
use Rattle.std.proofs.lemmas.Bool.{or_parts, not-false, true≢false, ltb-false, eq-eqb, ne_eqb}
use Rattle.std.proofs.lemmas.List.{append_assoc}
use Rattle.mud_world.specs.declared.limits.TheConstants.{NUMBERS}
use Rattle.mud_world.specs.declared.record.Record.{Record}
use Rattle.mud_world.specs.declared.record.Kind.{Kind}
use Rattle.mud_world.specs.declared.record.Kind.TheVariants.{Room, Exit, Thing, Player}
use Rattle.mud_world.specs.declared.change.Deed.TheVariants.{Dig}
use Rattle.mud_world.specs.declared.change.Target.{Target}
use Rattle.mud_world.specs.declared.change.Target.TheVariants.{New, Old}
use Rattle.mud_world.specs.declared.change.Doors.{Doors}
use Rattle.mud_world.specs.Kinds.{kind_place, is_room_kind, is_player_kind}
use Rattle.mud_world.specs.State.{State, record_at, has, is_room, is_player, place_of}
use Rattle.mud_world.specs.Sound.{IsSound, IsRising, IsPlacedWell}
use Rattle.mud_world.specs.Legal.{with_new, new_record, new_exit, dig_records, refusal, fails}
use Rattle.mud_world.specs.inner.Refusals.{refusals}
use Rattle.mud_world.specs.inner.Fields.{without_object}
use Rattle.mud_world.specs.inner.CanGo.{CanAdd, CanJoin}
use Rattle.mud_world.proofs.Records.{record_cases, lookup-append_left}
use Rattle.mud_world.proofs.Going.{nothing_fails}
use Rattle.mud_world.proofs.Grown.{next_missing}
use Rattle.mud_world.proofs.Naming.{record-new}

pub has-grown : (w : State) (rs : List Record) (test : Record → Bool) (n : ℕ) → has w n test ≡ true
    → has (with_new w rs) n test ≡ true
has-grown w rs test n is =
    record_cases (record_at w n)
    (λ e. absurd (true≢false (sym is ∙ ap (λ v. option_map_or test v false) e)))
    (λ r e. ap (λ v. option_map_or test v false) (lookup-append_left n r w.objects (enumerate_from w.next rs) e)
    ∙ sym (ap (λ v. option_map_or test v false) e) ∙ is)

pub CanAdd-exit : (w : State) (actor : ℕ) (names : List (List ℕ)) (a b : ℕ) → CanJoin w a b → w.next < NUMBERS
    → CanAdd w (new_exit actor names a b)
CanAdd-exit w actor names a b join room = record {
  room = room;
  free = λ e. absurd (true≢false (sym e));
  new = record {
    keyless = refl;
    place = λ p e. let bad : None ≡ Some p = e in absurd (cc);
    well = (
      has-grown w (new_exit actor names a b ∷ []) (λ r. is_room_kind r.kind) a join.from,
      has-grown w
          (new_exit actor names a b ∷ []) (λ r. is_room_kind r.kind) b join.to,
      omega arith,
    );
  };
}

pub CanAdd-room : (w : State) (actor : ℕ) (names : List (List ℕ)) → w.next < NUMBERS
    → CanAdd w (new_record actor names Room)
CanAdd-room w actor names room = record {
  room = room;
  free = λ e. absurd (true≢false (sym e));
  new = record { keyless = refl; place = λ p e. let bad : None ≡ Some p = e in absurd (cc); well = tt };
}

pub CanJoin-grown : (w : State) (rs : List Record) (a b : ℕ) → CanJoin w a b → CanJoin (with_new w rs) a b
CanJoin-grown w rs a b join =
    record {
      from = has-grown w rs (λ r. is_room_kind r.kind) a join.from;
      to = has-grown w rs (λ r. is_room_kind r.kind) b join.to;
    }

pub CanJoin-flip : (w : State) (a b : ℕ) → CanJoin w a b → CanJoin w b a
CanJoin-flip w a b join = record { from = join.to; to = join.from }

-- one at a time
pub with_new-more : (w : State) (r : Record) (rs : List Record)
    → with_new (with_new w (r ∷ [])) rs ≡ with_new w (r ∷ rs)
with_new-more w r rs = λ i. record {
  objects = (append_assoc w.objects ((w.next, r) ∷ []) (enumerate_from (w.next + 1) rs)) i;
  next = (one_more) i;
}
  where
    one_more : w.next + 1 + length rs ≡ w.next + length (r ∷ rs)
    one_more = omega arith

-- ---- a legal dig
module _ (w : State) (sound : IsSound w) (a : ℕ) (target : Target) (doors : Option Doors)
    (legal : refusal w (record { actor = a; deed = Dig target doors }) ≡ None) where
  abbrev none_holds : AllByRecursion (λ f. fails w (record { actor = a; deed = Dig target doors }) f ≡ false) refusals
  none_holds = nothing_fails w (record { actor = a; deed = Dig target doors }) legal

  abbrev here : ℕ
  here = unwrap_or (place_of w a) 0

  player : is_player w a ≡ true
  player = not-false _ (or_parts _ _ none_holds.1.0).0

  pub here-room : is_room w here ≡ true
  here-room =
      record_cases (record_at w a)
      (λ e. absurd (true≢false (sym player ∙ ap (λ v. option_map_or (λ r. is_player_kind r.kind) v false) e)))
      (λ r e.
      ap (λ v. is_room w (unwrap_or (option_and_then (λ r. kind_place r.kind) v) 0)) e
      ∙ stands r.kind (sym (ap (λ v. option_map_or (λ r. is_player_kind r.kind) v false) e) ∙ player)
      (sound.placed a r e))
    where
      stands : (k : Kind) → is_player_kind k ≡ true → IsPlacedWell w k → is_room w (unwrap_or (kind_place k) 0) ≡ true
      stands Room e well = absurd (true≢false (sym e))
      stands (Exit p) e well = absurd (true≢false (sym e))
      stands (Thing p) e well = absurd (true≢false (sym e))
      stands (Player p) e well = well

  pub enough : w.next + length (dig_records w a target doors) ≤ NUMBERS
  enough = let small =
      ltb-false NUMBERS (w.next + length (dig_records w a target doors)) none_holds.1.1.1.1.1.1.1.1.1.1.1.1.1.1.0 in
      omega (arith, small)

pub CanJoin-dig_old : (w : State) → IsSound w → (a room : ℕ) (doors : Option Doors)
    → refusal w (record { actor = a; deed = Dig (Old room) doors }) ≡ None → CanJoin w (unwrap_or (place_of w a) 0) room
CanJoin-dig_old w sound a room doors legal =
    let none_holds = nothing_fails w (record { actor = a; deed = Dig (Old room) doors }) legal in
    record {
      from = here-room w sound a (Old room) doors legal;
      to = not-false _ (or_parts _ _ (or_parts _ _ none_holds.1.0).1).0;
    }

pub CanJoin-dig_new : (w : State) → IsSound w → (a : ℕ) (names : List (List ℕ)) (doors : Option Doors)
    → refusal w (record { actor = a; deed = Dig (New names) doors }) ≡ None
    → CanJoin (with_new w (new_record a names Room ∷ [])) (unwrap_or (place_of w a) 0) w.next
CanJoin-dig_new w sound a names doors legal = record {
  from = has-grown w (new_record a names Room ∷ []) (λ r. is_room_kind r.kind) (unwrap_or (place_of w a) 0)
      (here-room w sound a (New names) doors legal);
  to =
      ap (λ v. option_map_or (λ r. is_room_kind r.kind) v false)
      (record-new w (new_record a names Room) (next_missing w sound));
}

-- ---- removing the object that was added last
last-above : (low high n : ℕ) (r : Record) (es : List (ℕ × Record)) → IsRising low (es ++ (n, r) ∷ []) high → low ≤ n
last-above low high n r [] rises = rises.0
last-above low high n r (e ∷ es) rises = let rest = last-above (e.0 + 1) high n r es rises.1 in let le = rises.0 in
    omega (arith, rest, le)

remove-last : (low high n : ℕ) (r : Record) (es : List (ℕ × Record)) → IsRising low (es ++ (n, r) ∷ []) high
    → remove_entry (nat_eq n) (es ++ (n, r) ∷ []) ≡ es
remove-last low high n r [] rises = ap (λ b. cond b [] ((n, r) ∷ [])) (eq-eqb n n refl)
remove-last low high n r (e ∷ es) rises =
    ap (λ b. cond b (es ++ (n, r) ∷ []) (e ∷ remove_entry (nat_eq n) (es ++ (n, r) ∷ [])))
    (ne_eqb n e.0 (λ same. let above = last-above (e.0 + 1) high n r es rises.1 in omega (arith, above)))
    ∙ ap (λ v. e ∷ v) (remove-last (e.0 + 1) high n r es rises.1)

pub taken_back : (w : State) → IsSound w → (before : State) (r : Record) → w ≡ with_new before (r ∷ [])
    → record (without_object w (w.next - 1)) { next = w.next - 1 } ≡ before
taken_back w sound before r is =
    ap (λ v. record (without_object v (v.next - 1)) { next = v.next - 1 }) is
    ∙ (λ i. record {
      objects =
          (ap (λ n. remove_entry (nat_eq n) (before.objects ++ (before.next, r) ∷ [])) back
          ∙ remove-last 0 (before.next + 1) before.next r before.objects
          (subst (λ (v : State). IsRising 0 v.objects v.next) is sound.rising)) i;
      next = back i;
    })
  where
    back : before.next + 1 - 1 ≡ before.next
    back = omega arith

pub last-found : (w : State) → IsSound w → (before : State) (r : Record) → IsSound before → w ≡ with_new before (r ∷ [])
    → record_at w (w.next - 1) ≡ Some r
last-found w sound before r old is =
    ap (λ v. record_at v (v.next - 1)) is
    ∙ ap (record_at (with_new before (r ∷ []))) back
    ∙ record-new before r (next_missing before old)
  where
    back : before.next + 1 - 1 ≡ before.next
    back = omega arith

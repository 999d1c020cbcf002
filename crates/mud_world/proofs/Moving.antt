-- A world stays sound when an object moves to another place.
use Rattle.std.proofs.Common.{◌≡◌, ◌≢◌, ℕ, suc, ◌<◌, Bool, true, false, Some, None, refl, sym, ◌∙◌, ap, subst, ⊎_elim}
use Rattle.std.specs.Prelude.{is_some, IsTrue}
use Rattle.std.specs.Option.{option_map_or, option_and_then}
use Rattle.std.proofs.lemmas.Bool.{cases_eq, true≢false}
use Rattle.mud_world.specs.declared.record.Record.{Record}
use Rattle.mud_world.specs.declared.record.Kind.{Kind}
use Rattle.mud_world.specs.declared.record.Kind.TheVariants.{Room, Exit, Thing, Player}
use Rattle.mud_world.specs.State.{State, record_at, place_of, kind_place, key_of, nests, all_nest, exists, has, follow}
use Rattle.mud_world.specs.State.{is_room, is_exit, is_room_kind, is_exit_kind}
use Rattle.mud_world.specs.Sound.{IsPlacedWell, IsSound}
use Rattle.mud_world.specs.inner.Fields.{IsKeyless, IsLockedWell, IsLockedBelow, with_record}
use Rattle.mud_world.specs.Legal.{kind_at}
use Rattle.mud_world.proofs.KindLemmas.{same_room, same_exit, same_player}
use Rattle.mud_world.proofs.Naming.{named-same}
use Rattle.mud_world.proofs.Places.{follow_by, option_cases, no_circle-from_end, ends-off, ends-moved, ends_by-bound}
use Rattle.mud_world.proofs.Records.{record_cases, lookup-set_value_same, lookup-set_value_other, in_bounds}
use Rattle.mud_world.proofs.Records.{IsRising-set_value, option_map_or-agree_keys, list_all-agree, list_all-set_value}

-- in a sound world each chain ends
pub place-below : (w : State) → IsSound w → (a p : ℕ) → place_of w a ≡ Some p → p < w.next
place-below w sound a p at =
    record_cases (record_at w a)
    (λ e. let bad : None ≡ Some p = sym (ap (option_and_then (λ r. kind_place r.kind)) e) ∙ at in absurd (cc))
    (λ r e.
    let here : kind_place r.kind ≡ Some p = sym (ap (option_and_then (λ r. kind_place r.kind)) e) ∙ at in
    exists-below p (placed_exists r.kind here (sound.placed a r e)))
  where
    exists-below : (p : ℕ) → IsTrue (exists w p) → p < w.next
    exists-below p there =
        record_cases (record_at w p)
        (λ e. absurd (true≢false (sym there ∙ ap is_some e)))
        (λ r e. (in_bounds 0 w.next p r w.objects sound.rising e).1)

    room_exists : (p : ℕ) → IsTrue (is_room w p) → IsTrue (exists w p)
    room_exists p there =
        record_cases (record_at w p)
        (λ e. absurd (true≢false (sym there ∙ ap (λ v. option_map_or (λ r. is_room_kind r.kind) v false) e)))
        (λ r e. ap is_some e)

    placed_exists : (k : Kind) → kind_place k ≡ Some p → IsPlacedWell w k → IsTrue (exists w p)
    placed_exists Room e well = absurd (let bad : None ≡ Some p = e in cc)
    placed_exists (Exit x) e well = absurd (let bad : None ≡ Some p = e in cc)
    placed_exists (Thing q) e well = let same : q ≡ p = cc in subst (λ (v : ℕ). IsTrue (exists w v)) same well.0
    placed_exists (Player q) e well = let same : q ≡ p = cc in
        subst (λ (v : ℕ). IsTrue (exists w v)) same (room_exists q well)

pub ends_before : (w : State) → IsSound w → (a : ℕ) → (n : ℕ) × (follow w n a ≡ None)
ends_before w sound a =
    option_cases (place_of w a)
    (λ e. (1, follow_by w 0 a None e))
    (λ p e. (
      suc w.next,
      follow_by w w.next a (Some p) e
          ∙ ends_by-bound w w.next (place-below w sound) sound.no_circle p (place-below w sound a p e),
    ))

-- ---- object t, which has a place, moves to the place y
module _ (w : State) (sound : IsSound w) (t y : ℕ) (r : Record) (at : record_at w t ≡ Some r) where
  abbrev r' : Record
  r' = record r { kind = kind_at y r.kind }

  abbrev w' : State
  w' = with_record w t r'

  here : record_at w' t ≡ Some r'
  here = lookup-set_value_same t r' r w.objects at

  there : (n : ℕ) → n ≢ t → record_at w' n ≡ record_at w n
  there n apart = lookup-set_value_other t n apart r' w.objects

  -- the facts that the move does not change
  kept_has : (test : Record → Bool) → test r' ≡ test r → (n : ℕ) → has w' n test ≡ has w n test
  kept_has test same n =
      ⊎_elim
      (λ (e : n ≡ t).
      subst (λ (m : ℕ). has w' m test ≡ has w m test) (sym e)
      (ap (λ v. option_map_or test v false) here ∙ same ∙ sym (ap (λ v. option_map_or test v false) at)))
      (λ apart. ap (λ v. option_map_or test v false) (there n apart))
      (cases_eq n t)

  kept_exists : (n : ℕ) → exists w' n ≡ exists w n
  kept_exists n =
      ⊎_elim
      (λ (e : n ≡ t). subst (λ (m : ℕ). exists w' m ≡ exists w m) (sym e) (ap is_some here ∙ sym (ap is_some at)))
      (λ apart. ap is_some (there n apart))
      (cases_eq n t)

  kept_room : (n : ℕ) → is_room w' n ≡ is_room w n
  kept_room n = kept_has (λ r. is_room_kind r.kind) (same_room y r.kind) n

  kept_exit : (n : ℕ) → is_exit w' n ≡ is_exit w n
  kept_exit n = kept_has (λ r. is_exit_kind r.kind) (same_exit y r.kind) n

  kept_key : (o : ℕ) → key_of w' o ≡ key_of w o
  kept_key o =
      ⊎_elim
      (λ (e : o ≡ t). subst (λ (m : ℕ). key_of w' m ≡ key_of w m) (sym e)
      (ap (option_and_then (λ r. r.key)) here ∙ sym (ap (option_and_then (λ r. r.key)) at)))
      (λ apart. ap (option_and_then (λ r. r.key)) (there o apart))
      (cases_eq o t)

  kept_well : (k : Kind) → IsPlacedWell w k → IsPlacedWell w' k
  kept_well Room well = tt
  kept_well (Exit p) well = (kept_room p.source ∙ well.0, kept_room p.destination ∙ well.1, well.2)
  kept_well (Thing p) well = (kept_exists p ∙ well.0, kept_exit p ∙ well.1)
  kept_well (Player p) well = kept_room p ∙ well

  nesting : IsTrue (all_nest w')
  nesting =
      list_all-agree _ _ (λ e. option_map_or-agree_keys w w' kept_key 3 e.1.key) w'.objects
      ∙ list_all-set_value (λ r. option_map_or (nests w 3) r.key true) t r' r w.objects at refl
      ∙ sound.nesting

  keyless_kind : (k : Kind) (place : ℕ) → kind_at y k ≡ Player place → (old : ℕ) × (k ≡ Player old)
  keyless_kind Room place e = absurd (let bad : Room ≡ Player place = e in cc)
  keyless_kind (Exit p) place e = absurd (let bad : Exit p ≡ Player place = e in cc)
  keyless_kind (Thing p) place e = absurd (let bad : Thing y ≡ Player place = e in cc)
  keyless_kind (Player p) place e = (p, refl)

  keyless : (n : ℕ) (s : Record) → record_at w' n ≡ Some s → IsKeyless s
  keyless n s is =
      ⊎_elim
      (λ (e : n ≡ t).
      let found : Some r' ≡ Some s = sym here ∙ ap (record_at w') (sym e) ∙ is in
      let same : r' ≡ s = cc in
      subst (λ (v : Record). IsKeyless v) same
      (λ place player. let old = keyless_kind r.kind place player in sound.keyless t r at old.0 old.1))
      (λ apart. sound.keyless n s (sym (there n apart) ∙ is))
      (cases_eq n t)

  -- a fact about each record that does not name its kind
  of_key : (P : Record → Type 0) → P r' → ((q : ℕ) (s : Record) → record_at w q ≡ Some s → P s) → (n : ℕ) (s : Record)
      → record_at w' n ≡ Some s → P s
  of_key P new old n s is =
      ⊎_elim
      (λ (e : n ≡ t).
      let found : Some r' ≡ Some s = sym here ∙ ap (record_at w') (sym e) ∙ is in
      let same : r' ≡ s = cc in
      subst P same new)
      (λ apart. old n s (sym (there n apart) ∙ is))
      (cases_eq n t)

  same_place : (a : ℕ) → a ≢ t → place_of w' a ≡ place_of w a
  same_place a apart = ap (option_and_then (λ r. kind_place r.kind)) (there a apart)

  -- the world stays sound if y is a valid place, and t is not on the way up from y
  pub sound-moved : (q : ℕ) → kind_place r.kind ≡ Some q → IsPlacedWell w (kind_at y r.kind)
      → ((k : ℕ) → follow w k y ≢ Some t) → IsSound w'
  sound-moved q placed well off = record {
    rising = IsRising-set_value 0 w.next t r' w.objects sound.rising;
    limit = sound.limit;
    placed = λ n s is.
        ⊎_elim
        (λ (e : n ≡ t).
        let found : Some r' ≡ Some s = sym here ∙ ap (record_at w') (sym e) ∙ is in
        let same : r' ≡ s = cc in
        subst (λ (v : Record). IsPlacedWell w' v.kind) same (kept_well (kind_at y r.kind) well))
        (λ apart. kept_well s.kind (sound.placed n s (sym (there n apart) ∙ is)))
        (cases_eq n t);
    no_circle = λ m k.
        let first = ends_before w sound m in
        let way = ends_before w sound y in
        let all =
        ends-moved w w' t same_place y way.0
        (ap (option_and_then (λ r. kind_place r.kind)) here ∙ new_place r.kind placed)
        (ends-off w w' t same_place way.0 y off way.1) first.0 m first.1 in
        no_circle-from_end w' all.0 m k all.1;
    keyless = keyless;
    locked = of_key IsLockedWell (sound.locked t r at) sound.locked;
    made = of_key (IsLockedBelow w.next) (sound.made t r at) sound.made;
    nesting = nesting;
    hall = kept_room 0 ∙ sound.hall;
    named = named-same w t r r' sound.named at (same_player y r.kind) refl;
  }
    where
      new_place : (k : Kind) → kind_place k ≡ Some q → kind_place (kind_at y k) ≡ Some y
      new_place Room e = absurd (let bad : None ≡ Some q = e in cc)
      new_place (Exit p) e = absurd (let bad : None ≡ Some q = e in cc)
      new_place (Thing p) e = refl
      new_place (Player p) e = refl

-- A world stays sound when the record of an object changes and its place does not.
use Rattle.std.proofs.Common.{◌≡◌, ◌≢◌, ℕ, zero, suc, false, Option, Some, None, refl, sym, ◌∙◌, ap, subst, ⊎_elim}
use Rattle.std.specs.Prelude.{is_some, IsTrue}
use Rattle.std.specs.Option.{option_map_or, option_and_then}
use Rattle.std.proofs.lemmas.Bool.{cases_eq}
use Rattle.mud_world.specs.declared.record.Record.{Record}
use Rattle.mud_world.specs.declared.record.Kind.{Kind}
use Rattle.mud_world.specs.declared.record.Kind.TheVariants.{Room, Exit, Thing, Player}
use Rattle.mud_world.specs.Kinds.{kind_place, is_room_kind, is_exit_kind}
use Rattle.mud_world.specs.State.{State, record_at, place_of, follow, all_nest}
use Rattle.mud_world.specs.Sound.{IsPlacedWell, IsSound}
use Rattle.mud_world.specs.inner.Fields.{IsKeyless, IsLockedWell, IsLockedBelow, AreNamedApart, with_record}
use Rattle.mud_world.proofs.Places.{option_cases, follow_by, no_circle-from_end}
use Rattle.mud_world.proofs.Records.{lookup-set_value_same, lookup-set_value_other, IsRising-set_value}
use Rattle.mud_world.proofs.Moving.{ends_before}

-- the new record has the same kind and place, and is valid
pub record IsLike (w : State) (r r' : Record) : Type 0 where
  pub room : is_room_kind r'.kind ≡ is_room_kind r.kind
  pub exit : is_exit_kind r'.kind ≡ is_exit_kind r.kind
  pub place : kind_place r'.kind ≡ kind_place r.kind
  pub well : IsPlacedWell w r'.kind
  pub keyless : IsKeyless r'
  pub locked : IsLockedWell r'
  pub made : IsLockedBelow w.next r'

module _ (w : State) (sound : IsSound w) (n : ℕ) (r r' : Record) (at : record_at w n ≡ Some r)
    (like : IsLike w r r') where
  abbrev w' : State
  w' = with_record w n r'

  here : record_at w' n ≡ Some r'
  here = lookup-set_value_same n r' r w.objects at

  there : (q : ℕ) → q ≢ n → record_at w' q ≡ record_at w q
  there q apart = lookup-set_value_other n q apart r' w.objects

  -- an answer that is equal for both records does not change
  pub answer-kept : {X : Type 0} (f : Option Record → X) → f (Some r') ≡ f (Some r) → (q : ℕ)
      → f (record_at w' q) ≡ f (record_at w q)
  answer-kept f same q =
      ⊎_elim
      (λ (e : q ≡ n). ap (λ m. f (record_at w' m)) e ∙ ap f here ∙ same ∙ sym (ap f at)
      ∙ sym (ap (λ m. f (record_at w m)) e))
      (λ apart. ap f (there q apart))
      (cases_eq q n)

  well_kept : (k : Kind) → IsPlacedWell w k → IsPlacedWell w' k
  well_kept Room well = tt
  well_kept (Exit p) well = (
    answer-kept (λ v. option_map_or (λ r. is_room_kind r.kind) v false) like.room p.source
        ∙ well.0,
    answer-kept (λ v. option_map_or (λ r. is_room_kind r.kind) v false) like.room p.destination
        ∙ well.1,
    well.2,
  )
  well_kept (Thing p) well = (
    answer-kept is_some refl p
        ∙ well.0,
    answer-kept (λ v. option_map_or (λ r. is_exit_kind r.kind) v false) like.exit p ∙ well.1,
  )
  well_kept (Player p) well = answer-kept (λ v. option_map_or (λ r. is_room_kind r.kind) v false) like.room p ∙ well

  place_kept : (q : ℕ) → place_of w' q ≡ place_of w q
  place_kept q = answer-kept (option_and_then (λ r. kind_place r.kind)) like.place q

  follow_kept : (k q : ℕ) → follow w k q ≡ None → follow w' k q ≡ None
  follow_kept zero q ends = ends
  follow_kept (suc k) q ends =
      option_cases (place_of w q)
      (λ e. follow_by w' k q None (place_kept q ∙ e))
      (λ p e. follow_by w' k q (Some p) (place_kept q ∙ e) ∙ follow_kept k p (sym (follow_by w k q (Some p) e) ∙ ends))

  -- a fact about each old record and about the new one holds for each record
  pub each-kept : (P : Record → Type 0) → P r' → ((q : ℕ) (s : Record) → record_at w q ≡ Some s → P s)
      → (q : ℕ) (s : Record) → record_at w' q ≡ Some s → P s
  each-kept P new old q s is =
      ⊎_elim
      (λ (e : q ≡ n).
      let found : Some r' ≡ Some s = sym here ∙ ap (record_at w') (sym e) ∙ is in
      let same : r' ≡ s = cc in
      subst P same new)
      (λ apart. old q s (sym (there q apart) ∙ is))
      (cases_eq q n)

  pub sound-changed : IsTrue (all_nest w') → AreNamedApart w' → IsSound w'
  sound-changed nesting named = record {
    rising = IsRising-set_value 0 w.next n r' w.objects sound.rising;
    limit = sound.limit;
    placed = each-kept (λ s. IsPlacedWell w' s.kind) (well_kept r'.kind like.well)
        (λ q s is. well_kept s.kind (sound.placed q s is));
    no_circle = λ m k. let first = ends_before w sound m in
        no_circle-from_end w' first.0 m k (follow_kept first.0 m first.1);
    keyless = each-kept IsKeyless like.keyless sound.keyless;
    locked = each-kept IsLockedWell like.locked sound.locked;
    made = each-kept (IsLockedBelow w.next) like.made sound.made;
    nesting = nesting;
    named = named;
    hall = answer-kept (λ v. option_map_or (λ r. is_room_kind r.kind) v false) like.room 0 ∙ sound.hall;
  }

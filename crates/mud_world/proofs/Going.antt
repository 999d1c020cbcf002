-- The premises of a legal walk or move, and its effect on the fields.
use Rattle.std.proofs.Common.{◌≡◌, ◌≢◌, ℕ, zero, suc, ◌<◌, ◌≤◌, Bool, true, false, cond, List, [], ◌∷◌, Some, None}
use Rattle.std.proofs.Common.{refl, sym, ◌∙◌, ap, subst, ⊎_elim}
use Rattle.std.specs.Prelude.{nat_eq, is_some, find, Result, Ok, Err, OnOk, OnErr}
use Rattle.std.specs.Option.{option_map, option_map_or, option_and_then}
use Rattle.std.specs.List.{AllByRecursion}
use Rattle.std.proofs.lemmas.Bool.{or_parts, and_from, eq-eqb, true≢false, cases_lt, not-false}
use Rattle.std.proofs.lemmas.Map.Steps.{set_value_same}
use Rattle.mud_world.specs.declared.record.Record.{Record}
use Rattle.mud_world.specs.declared.record.Kind.{Kind}
use Rattle.mud_world.specs.declared.record.Kind.TheVariants.{Room, Exit, Thing, Player}
use Rattle.mud_world.specs.declared.change.Change.{Change}
use Rattle.mud_world.specs.declared.change.Deed.TheVariants.{Move, Walk}
use Rattle.mud_world.specs.Kinds.{kind_place, kind_passage, kind_at, is_player_kind, is_room_kind}
use Rattle.mud_world.specs.State.{State, record_at, exists, is_room, is_exit, is_thing_kind, is_number, place_of}
use Rattle.mud_world.specs.State.{destination_of, follow, comes_to, within}
use Rattle.mud_world.specs.Sound.{IsSound, IsPlacedWell}
use Rattle.mud_world.specs.Legal.{refusal, fails}
use Rattle.mud_world.specs.inner.Refusals.{refusals}
use Rattle.mud_world.specs.inner.Fields.{with_record, with_place}
use Rattle.mud_world.specs.inner.CanGo.{CanGo}
use Rattle.mud_world.proofs.Records.{record_cases, bool_cases, in_bounds}
use Rattle.mud_world.proofs.Containing.{follow-past}
use Rattle.mud_world.proofs.Places.{follow_by, comes_to-false, ends_by-bound}
use Rattle.mud_world.proofs.Moving.{place-below}

pub find_none : {X : Type 0} (p : X → Bool) (xs : List X) → find p xs ≡ None → AllByRecursion (λ x. p x ≡ false) xs
find_none p [] none = tt
find_none p (x ∷ xs) none =
    bool_cases (p x)
    (λ e. let bad : Some x ≡ None = sym (ap (λ b. cond b (Some x) (find p xs)) e) ∙ none in absurd (cc))
    (λ e. (e, find_none p xs (sym (ap (λ b. cond b (Some x) (find p xs)) e) ∙ none)))

-- no condition refuses a legal change
pub nothing_fails : (w : State) (e : Change) → refusal w e ≡ None → AllByRecursion (λ f. fails w e f ≡ false) refusals
unfolding refusal
nothing_fails w e legal = find_none (fails w e) refusals legal

pub moved_by : (w : State) (t y : ℕ) (r : Record) → record_at w t ≡ Some r
    → with_place w t y ≡ with_record w t (record r { kind = kind_at y r.kind })
moved_by w t y r at = ap (λ v. option_map_or (λ r. with_record w t (record r { kind = kind_at y r.kind })) v w) at

-- an object that returns to its place leaves the world unchanged
same_record : (w : State) (t : ℕ) (r : Record) → record_at w t ≡ Some r → with_record w t r ≡ w
same_record w t r at = ap (λ v. record w { objects = v }) (set_value_same (nat_eq t) w.objects r at)

pub moved-same : (w : State) (t q : ℕ) → place_of w t ≡ Some q → with_place w t q ≡ w
moved-same w t q placed =
    record_cases (record_at w t)
    (λ e. ap (λ v. option_map_or (λ r. with_record w t (record r { kind = kind_at q r.kind })) v w) e)
    (λ r e.
    let here : kind_place r.kind ≡ Some q = sym (ap (option_and_then (λ r. kind_place r.kind)) e) ∙ placed in
    moved_by w t q r e ∙ ap (λ k. with_record w t (record r { kind = k })) (same_kind r.kind here)
    ∙ same_record w t r e)
  where
    same_kind : (k : Kind) → kind_place k ≡ Some q → kind_at q k ≡ k
    same_kind Room e = refl
    same_kind (Exit p) e = refl
    same_kind (Thing p) e = let same : p ≡ q = cc in ap (λ v. Thing v) (sym same)
    same_kind (Player p) e = let same : p ≡ q = cc in ap (λ v. Player v) (sym same)

-- ---- a legal walk
module _ (w : State) (sound : IsSound w) (a x : ℕ)
    (legal : refusal w (record { actor = a; deed = Walk x }) ≡ None) where
  walker : (r : Record) → record_at w a ≡ Some r → is_player_kind r.kind ≡ true
  walker r at =
      let kinds = (nothing_fails w (record { actor = a; deed = Walk x }) legal).1.0 in
      sym (ap (λ v. option_map_or (λ r. is_player_kind r.kind) v false) at) ∙ not-false _ (or_parts _ _ kinds).0

  leads_to_room : (d : ℕ) → destination_of w x ≡ Some d → is_room w d ≡ true
  leads_to_room d at =
      record_cases (record_at w x)
      (λ e. let bad : None ≡ Some d =
      sym (ap (λ v. option_map (λ p. p.destination) (option_and_then (λ r. kind_passage r.kind) v)) e)
      ∙ at in absurd (cc))
      (λ r e. room_of r.kind
      (sym (ap (λ v. option_map (λ p. p.destination) (option_and_then (λ r. kind_passage r.kind) v)) e) ∙ at)
      (sound.placed x r e))
    where
      room_of : (k : Kind) → option_map (λ p. p.destination) (kind_passage k) ≡ Some d → IsPlacedWell w k
          → is_room w d ≡ true
      room_of Room e well = absurd (let bad : None ≡ Some d = e in cc)
      room_of (Exit p) e well = let same : p.destination ≡ d = cc in subst (λ (v : ℕ). is_room w v ≡ true) same well.1
      room_of (Thing p) e well = absurd (let bad : None ≡ Some d = e in cc)
      room_of (Player p) e well = absurd (let bad : None ≡ Some d = e in cc)

  room_place : (d : ℕ) → is_room w d ≡ true → place_of w d ≡ None
  room_place d room =
      record_cases (record_at w d)
      (λ e. ap (option_and_then (λ r. kind_place r.kind)) e)
      (λ r e. ap (option_and_then (λ r. kind_place r.kind)) e
      ∙ no_place r.kind (sym (ap (λ v. option_map_or (λ r. is_room_kind r.kind) v false) e) ∙ room))
    where
      no_place : (k : Kind) → is_room_kind k ≡ true → kind_place k ≡ None
      no_place Room e = refl
      no_place (Exit p) e = refl
      no_place (Thing p) e = absurd (true≢false (sym e))
      no_place (Player p) e = absurd (true≢false (sym e))

  pub CanGo-walk : (q d : ℕ) → place_of w a ≡ Some q → destination_of w x ≡ Some d → q ≢ d → CanGo w a q d
  CanGo-walk q d from at apart = record {
    from = from;
    apart = apart;
    fit = λ r is. fit_at r.kind (walker r is);
    off = λ k. off_at k;
  }
    where
      fit_at : (k : Kind) → is_player_kind k ≡ true → IsPlacedWell w (kind_at d k)
      fit_at Room e = absurd (true≢false (sym e))
      fit_at (Exit p) e = absurd (true≢false (sym e))
      fit_at (Thing p) e = absurd (true≢false (sym e))
      fit_at (Player p) e = leads_to_room d at

      off_at : (k : ℕ) → follow w k d ≢ Some a
      off_at zero e = let same : d ≡ a = cc in let bad : None ≡ Some q = sym (room_place d (leads_to_room d at))
          ∙ ap (place_of w) same ∙ from in cc
      off_at (suc k) e = let bad : None ≡ Some a = sym (follow_by w k d None (room_place d (leads_to_room d at)))
          ∙ e in cc

-- a fact that holds whether or not a call succeeded

-- ---- a legal move
module _ (w : State) (sound : IsSound w) (a t y : ℕ)
    (legal : refusal w (record { actor = a; deed = Move t y }) ≡ None) where
  abbrev none_holds : AllByRecursion (λ f. fails w (record { actor = a; deed = Move t y }) f ≡ false) refusals
  none_holds = nothing_fails w (record { actor = a; deed = Move t y }) legal

  both_exist : (exists w t ≡ true) × (exists w y ≡ true)
  both_exist =
      let parts = or_parts _ _ (or_parts _ _ none_holds.0).1 in
      (not-false _ parts.0, not-false _ parts.1)

  thing_kind : (r : Record) → record_at w t ≡ Some r → is_thing_kind r.kind ≡ true
  thing_kind r at =
      let parts = or_parts _ _ (or_parts _ _ none_holds.1.0).1 in
      sym (ap (λ v. option_map_or (λ r. is_thing_kind r.kind) v false) at) ∙ not-false _ parts.0

  no_exit : is_exit w y ≡ false
  no_exit = (or_parts _ _ (or_parts _ _ none_holds.1.0).1).1

  not_there : is_number y (place_of w t) ≡ false
  not_there = (or_parts _ _ (or_parts _ _ none_holds.1.1.0).0).1

  not_within : comes_to w w.next y t ≡ false
  not_within =
      bool_cases (comes_to w w.next y t)
      (λ e. let holds : within w y t ≡ true = and_from _ _ both_exist.1 e in
      absurd (true≢false (sym holds ∙ none_holds.1.1.1.1.1.1.1.1.1.0)))
      (λ e. e)

  low : y < w.next
  low =
      record_cases (record_at w y)
      (λ e. absurd (true≢false (sym both_exist.1 ∙ ap is_some e)))
      (λ r e. (in_bounds 0 w.next y r w.objects sound.rising e).1)

  pub CanGo-move : (q : ℕ) → place_of w t ≡ Some q → CanGo w t q y
  CanGo-move q from = record {
    from = from;
    apart = λ same. true≢false (sym (ap (is_number y) from ∙ eq-eqb y q (sym same)) ∙ not_there);
    fit = λ r is. fit_at r.kind (thing_kind r is);
    off = λ k e.
        ⊎_elim
        (λ (lt : k < w.next). comes_to-false w w.next y t k lt not_within e)
        (λ (le : w.next ≤ k).
        let ends = ends_by-bound w w.next (place-below w sound) sound.no_circle y low in
        let bad : None ≡ Some t = sym (follow-past w w.next k y le ends) ∙ e in cc)
        (cases_lt k w.next);
  }
    where
      fit_at : (k : Kind) → is_thing_kind k ≡ true → IsPlacedWell w (kind_at y k)
      fit_at Room e = absurd (true≢false (sym e))
      fit_at (Exit p) e = absurd (true≢false (sym e))
      fit_at (Thing p) e = (both_exist.1, no_exit)
      fit_at (Player p) e = absurd (true≢false (sym e))

  -- a thing has a place
  pub has_place : place_of w t ≢ None
  has_place none =
      record_cases (record_at w t)
      (λ e. true≢false (sym both_exist.0 ∙ ap is_some e))
      (λ r e. placed r.kind (thing_kind r e) (sym (ap (option_and_then (λ r. kind_place r.kind)) e) ∙ none))
    where
      placed : (k : Kind) → is_thing_kind k ≡ true → kind_place k ≡ None → ⊥
      placed Room e f = true≢false (sym e)
      placed (Exit p) e f = true≢false (sym e)
      placed (Thing p) e f = let bad : Some p ≡ None = f in cc
      placed (Player p) e f = true≢false (sym e)

-- a consequence of the two facts about either outcome
pub either_way : {T E P P' Q Q' X : Type 0} (r : Result T E) → OnOk r P → OnOk r P' → OnErr r Q → OnErr r Q'
    → (P → P' → X) → (Q → Q' → X) → X
either_way (Ok x) p p' q q' f g = f p p'
either_way (Err e) p p' q q' f g = g q q'

pub on_err : {T E Q : Type 0} (r : Result T E) → Q → OnErr r Q
on_err (Ok x) q = tt
on_err (Err e) q = q

-- The premises of a legal cost change or recycling.
use Rattle.std.proofs.Common.{◌≡◌, ◌≢◌, ◌≤◌, ℕ, ◌+◌, ◌&&◌, Bool, true, false, cond, List, [], ◌∷◌, Some, None, refl}
use Rattle.std.proofs.Common.{sym, ◌∙◌, ap, subst, arith}
use Rattle.std.specs.Prelude.{nat_eq}
use Rattle.std.specs.Option.{option_map_or, option_and_then}
use Rattle.std.specs.List.{list_any}
use Rattle.std.specs.Map.{lookup}
use Rattle.std.proofs.lemmas.Bool.{or_parts, not-false, true≢false, eq-eqb, eqb-true, ltb-false}
use Rattle.mud_world.specs.declared.limits.TheConstants.{NUMBERS, MOST_COST}
use Rattle.mud_world.specs.declared.record.Record.{Record}
use Rattle.mud_world.specs.declared.record.Kind.{Kind}
use Rattle.mud_world.specs.declared.record.Kind.TheVariants.{Room, Exit, Thing, Player}
use Rattle.mud_world.specs.declared.change.Deed.TheVariants.{Cost, Recycle, Rename, Player as NewPlayer}
use Rattle.mud_world.specs.Kinds.{kind_needs, kind_costing, is_room_kind, is_exit_kind, is_player_kind}
use Rattle.mud_world.specs.State.{State, exists, nests, is_taken}
use Rattle.mud_world.specs.Sound.{IsSound, IsPlacedWell}
use Rattle.mud_world.specs.Legal.{new_record, refusal}
use Rattle.mud_world.specs.inner.Fields.{with_record, with_cost, with_names}
use Rattle.mud_world.specs.inner.CanGo.{IsOff, CanRemove, CanName, CanAdd}
use Rattle.mud_world.proofs.Records.{bool_cases, option_map_or-agree_keys, list_all-agree, list_all-set_value}
use Rattle.mud_world.proofs.Going.{nothing_fails}
use Rattle.mud_world.proofs.Digging.{has-grown}
use Rattle.mud_world.proofs.Listing.{has_exists}
use Rattle.mud_world.proofs.Naming.{named-same, named-set}
use Rattle.mud_world.proofs.Keying.{found}
use Rattle.mud_world.proofs.Editing.{changed_by, SameLinks}
use Rattle.mud_world.proofs.Changing.{IsLike, sound-changed, answer-kept}

none-needs : (p : Record → Bool) (es : List (ℕ × Record)) → list_any (λ e. p e.1) es ≡ false → (n : ℕ) (r : Record)
    → lookup (nat_eq n) es ≡ Some r → p r ≡ false
none-needs p [] none n r at = absurd (let bad : None ≡ Some r = at in cc)
none-needs p (e ∷ es) none n r at =
    let parts = or_parts (p e.1) (list_any (λ e. p e.1) es) none in
    bool_cases (nat_eq n e.0)
    (λ here.
    let both : Some e.1 ≡ Some r = sym (ap (λ b. cond b (Some e.1) (lookup (nat_eq n) es)) here) ∙ at in
    let same : e.1 ≡ r = cc in
    ap p (sym same) ∙ parts.0)
    (λ past. none-needs p es parts.1 n r (sym (ap (λ b. cond b (Some e.1) (lookup (nat_eq n) es)) past) ∙ at))

apart-from : (n p : ℕ) → nat_eq n p ≡ false → p ≢ n
apart-from n p differs same = true≢false (sym (eq-eqb n p (sym same)) ∙ differs)

off : (n : ℕ) (k : Kind) → kind_needs n k ≡ false → IsOff n k
off n Room e = tt
off n (Exit p) e = let parts = or_parts _ _ e in (apart-from n p.source parts.0, apart-from n p.destination parts.1)
off n (Thing p) e = apart-from n p e
off n (Player p) e = apart-from n p e

pub CanRemove-recycle : (w : State) (a n : ℕ) → refusal w (record { actor = a; deed = Recycle n }) ≡ None
    → CanRemove w n
CanRemove-recycle w a n legal =
    let none_holds = nothing_fails w (record { actor = a; deed = Recycle n }) legal in
    record {
      there = not-false _ (or_parts _ _ none_holds.0).1;
      no_player = (or_parts _ _ none_holds.1.0).1;
      other = λ e. true≢false (sym (eq-eqb n 0 e) ∙ (or_parts _ _ none_holds.1.1.1.1.1.1.1.1.1.1.1.1.1.0).0);
      unused = λ m r at. off n r.kind
          (none-needs (λ r. kind_needs n r.kind) w.objects
          (or_parts _ _ none_holds.1.1.1.1.1.1.1.1.1.1.1.1.1.0).1 m r at);
    }

-- ---- another cost
abbrev pub with_this_cost : ℕ → Record → Record
with_this_cost cost r = record r { kind = kind_costing cost r.kind }

pub links-cost : (cost : ℕ) (k : Kind) → SameLinks (kind_costing cost k) k
links-cost cost Room = record { place = refl; source = refl; destination = refl }
links-cost cost (Exit p) = record { place = refl; source = refl; destination = refl }
links-cost cost (Thing p) = record { place = refl; source = refl; destination = refl }
links-cost cost (Player p) = record { place = refl; source = refl; destination = refl }

same-room : (cost : ℕ) (k : Kind) → is_room_kind (kind_costing cost k) ≡ is_room_kind k
same-room cost Room = refl
same-room cost (Exit p) = refl
same-room cost (Thing p) = refl
same-room cost (Player p) = refl

same-exit : (cost : ℕ) (k : Kind) → is_exit_kind (kind_costing cost k) ≡ is_exit_kind k
same-exit cost Room = refl
same-exit cost (Exit p) = refl
same-exit cost (Thing p) = refl
same-exit cost (Player p) = refl

same-player : (cost : ℕ) (k : Kind) (place : ℕ) → kind_costing cost k ≡ Player place → k ≡ Player place
same-player cost Room place e = absurd (let bad : Room ≡ Player place = e in cc)
same-player cost (Exit p) place e = absurd (let bad : false ≡ true = ap is_player_kind e in cc)
same-player cost (Thing p) place e = absurd (let bad : Thing p ≡ Player place = e in cc)
same-player cost (Player p) place e = e

pub kind-player : (cost : ℕ) (k : Kind) → is_player_kind (kind_costing cost k) ≡ is_player_kind k
kind-player cost Room = refl
kind-player cost (Exit p) = refl
kind-player cost (Thing p) = refl
kind-player cost (Player p) = refl

pub sound-cost : (w : State) → IsSound w → (a n cost : ℕ) → refusal w (record { actor = a; deed = Cost n cost }) ≡ None
    → IsSound (with_cost w n cost)
sound-cost w sound a n cost legal =
    let none_holds = nothing_fails w (record { actor = a; deed = Cost n cost }) legal in
    let it = found w n (not-false _ (or_parts _ _ none_holds.0).1) in
    let r = it.0 in
    let low = ltb-false MOST_COST cost none_holds.1.1.1.1.1.1.1.1.0 in
    let r' = with_this_cost cost r in
    let like : IsLike w r r' = record {
      room = same-room cost r.kind;
      exit = same-exit cost r.kind;
      place = (links-cost cost r.kind).place;
      well = fits r.kind low (sound.placed n r it.1);
      keyless = λ place e. sound.keyless n r it.1 place (same-player cost r.kind place e);
      locked = sound.locked n r it.1;
      made = sound.made n r it.1;
    } in
    let w' = with_record w n r' in
    subst IsSound (sym (changed_by w n (with_this_cost cost) r it.1)) (sound-changed w sound n r r' it.1 like
    (list_all-agree _ _
    (λ e. option_map_or-agree_keys w w'
    (answer-kept w sound n r r' it.1 like (option_and_then (λ r. r.key)) refl) 3 e.1.key) w'.objects
    ∙ list_all-set_value (λ r. option_map_or (nests w 3) r.key true) n r' r w.objects it.1 refl
    ∙ sound.nesting) (named-same w n r r' sound.named it.1 (kind-player cost r.kind) refl))
  where
    fits : (k : Kind) → cost ≤ MOST_COST → IsPlacedWell w k → IsPlacedWell w (kind_costing cost k)
    fits Room low well = tt
    fits (Exit p) low well = (well.0, well.1, low)
    fits (Thing p) low well = well
    fits (Player p) low well = well

-- ---- other names
abbrev pub with_these_names : List (List ℕ) → Record → Record
with_these_names names r = record r { names = names }

pub sound-renamed : (w : State) → IsSound w → (n : ℕ) (names : List (List ℕ)) → CanName w n names
    → IsSound (with_names w n names)
sound-renamed w sound n names can =
    let it = found w n can.there in
    let r = it.0 in
    let r' = with_these_names names r in
    let like : IsLike w r r' =
    record {
      room = refl;
      exit = refl;
      place = refl;
      well = sound.placed n r it.1;
      keyless = sound.keyless n r it.1;
      locked = sound.locked n r it.1;
      made = sound.made n r it.1;
    } in
    let w' = with_record w n r' in
    subst IsSound (sym (changed_by w n (with_these_names names) r it.1)) (sound-changed w sound n r r' it.1 like
    (list_all-agree _ _
    (λ e. option_map_or-agree_keys w w'
    (answer-kept w sound n r r' it.1 like (option_and_then (λ r. r.key)) refl) 3 e.1.key) w'.objects
    ∙ list_all-set_value (λ r. option_map_or (nests w 3) r.key true) n r' r w.objects it.1 refl
    ∙ sound.nesting)
    (named-set w n r r' sound.named it.1
    (λ player. can.free (ap (λ v. option_map_or (λ r. is_player_kind r.kind) v false) it.1 ∙ player))))

pub CanName-rename : (w : State) (a n : ℕ) (names : List (List ℕ))
    → refusal w (record { actor = a; deed = Rename n names }) ≡ None → CanName w n names
CanName-rename w a n names legal =
    let none_holds = nothing_fails w (record { actor = a; deed = Rename n names }) legal in
    record {
      there = not-false _ (or_parts _ _ none_holds.0).1;
      free = λ player. sym (ap (λ b. b && is_taken w n names) player) ∙ none_holds.1.1.1.1.1.0;
    }

-- ---- a new player
pub CanAdd-player : (w : State) → IsSound w → (a : ℕ) (name : List ℕ)
    → refusal w (record { actor = a; deed = NewPlayer name }) ≡ None → CanAdd w (new_record a (name ∷ []) (Player 0))
CanAdd-player w sound a name legal =
    let none_holds = nothing_fails w (record { actor = a; deed = NewPlayer name }) legal in
    let is_next : a ≡ w.next = eqb-true a w.next (not-false _ none_holds.0) in
    let small = ltb-false NUMBERS (w.next + 1) none_holds.1.1.1.1.1.1.1.1.1.1.1.1.1.1.0 in
    record {
      room = omega (arith, small);
      free = λ _. ap (λ n. is_taken w n (name ∷ [])) (sym is_next) ∙ none_holds.1.1.1.1.1.0;
      new = record {
        keyless = refl;
        place = λ p e. let same : 0 ≡ p = cc in
            subst (λ (v : ℕ). exists w v ≡ true) same (has_exists w (λ r. is_room_kind r.kind) 0 sound.hall);
        well = has-grown w (new_record a (name ∷ []) (Player 0) ∷ []) (λ r. is_room_kind r.kind) 0 sound.hall;
      };
    }

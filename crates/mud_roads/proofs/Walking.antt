-- A walk leaves what is open to each player as it is, so the rest of a walk stays open.
use Rattle.std.proofs.Common.{◌≡◌, ◌≢◌, ℕ, zero, suc, Bool, true, false, ◌&&◌, ◌||◌, cond, [], ◌∷◌, Option, Some, None}
use Rattle.std.proofs.Common.{refl, sym, ◌∙◌, ap, subst, ⊎_elim}
use Rattle.std.specs.Prelude.{nat_eq, is_some, IsTrue, List}
use Rattle.std.specs.Option.{option_map, option_map_or, option_and_then}
use Rattle.std.specs.List.{filter_map}
use Rattle.std.proofs.lemmas.Bool.{cases_eq, eq-eqb, ne_eqb, and_parts, not_from_true, or_from, true≢false}
use Rattle.mud_world.specs.declared.record.Record.{Record}
use Rattle.mud_world.specs.declared.record.Passage.{Passage}
use Rattle.mud_world.specs.declared.record.Kind.{Kind}
use Rattle.mud_world.specs.declared.record.Kind.TheVariants.{Room, Exit, Thing, Player}
use Rattle.mud_world.specs.declared.change.Change.{Change}
use Rattle.mud_world.specs.declared.change.Deed.TheVariants.{Walk as WalkDeed}
use Rattle.mud_world.specs.declared.refusal.Refusal.{Refusal}
use Rattle.mud_world.specs.declared.refusal.Refusal.TheVariants.{NoSuch, WrongKind, NotHere, LockedExit, LockedRoom}
use Rattle.mud_world.specs.Kinds.{kind_at, kind_place, kind_passage, is_player_kind, is_exit_kind, is_room_kind}
use Rattle.mud_world.specs.State.{State, record_at, exists, has, is_exit, is_room, is_number, is_player, place_of}
use Rattle.mud_world.specs.State.{comes_to}
use Rattle.mud_world.specs.State.{passage_of, destination_of, leaving_of, unlocked}
use Rattle.mud_world.specs.Sound.{IsSound}
use Rattle.mud_world.specs.Legal.{fails, refusal, after as world_after}
use Rattle.mud_world.specs.inner.Fields.{with_record, with_place, leaves_from}
use Rattle.mud_world.proofs.KindLemmas.{same_passage, same_player, same_room}
use Rattle.mud_world.proofs.Records.{record_cases}
use Rattle.mud_world.proofs.Going.{moved_by}
use Rattle.mud_world.proofs.Least.{refusals_law}
use Rattle.mud_world.proofs.Sounding.{soundness_law}
use Rattle.mud_roads.specs.declared.label.Step.{Step}
use Rattle.mud_roads.specs.Walks.{Roads, Walk}
use Rattle.mud_roads.specs.Passable.{passable, roads_of}
use Rattle.mud_roads.specs.Passable.{open_step}
use Rattle.mud_roads.specs.Laws.{IsRoad, IsWalked}
use Rattle.mud_roads.proofs.Roads.{road-at}
use Rattle.mud_roads.proofs.Unmoved as unmoved

-- ---- a room
-- following places from a room comes to no player
room-comes : (w : State) (n a p : ℕ) → is_room w a ≡ true → is_player w p ≡ true → comes_to w n a p ≡ false
room-comes w zero a p room player = refl
room-comes w (suc n) a p room player =
    record_cases (record_at w a)
    (λ e. absurd (true≢false (sym room ∙ ap (λ v. option_map_or (λ r. is_room_kind r.kind) v false) e)))
    (λ r e. of_room r.kind r e refl (sym (ap (λ v. option_map_or (λ r. is_room_kind r.kind) v false) e) ∙ room))
  where
    apart : (r : Record) → record_at w a ≡ Some r → r.kind ≡ Room → nat_eq a p ≡ false
    apart r e kind =
        ne_eqb a p (λ same. true≢false (sym player ∙ ap (is_player w) (sym same)
        ∙ ap (λ v. option_map_or (λ r. is_player_kind r.kind) v false) e ∙ ap is_player_kind kind))

    of_room : (k : Kind) (r : Record) → record_at w a ≡ Some r → r.kind ≡ k → is_room_kind k ≡ true
        → comes_to w (suc n) a p ≡ false
    of_room Room r e kind is =
        ap (λ b. b || option_map_or (λ c. comes_to w n c p) (place_of w a) false) (apart r e kind)
        ∙ ap (λ v. option_map_or (λ c. comes_to w n c p) v false)
        (ap (option_and_then (λ r. kind_place r.kind)) e ∙ ap kind_place kind)
    of_room (Exit b) r e kind is = absurd (true≢false (sym is))
    of_room (Thing b) r e kind is = absurd (true≢false (sym is))
    of_room (Player b) r e kind is = absurd (true≢false (sym is))

-- ---- object q moves
module _ (w : State) (q y : ℕ) (r : Record) (at : record_at w q ≡ Some r) where
  abbrev r' : Record
  r' = record r { kind = kind_at y r.kind }

  abbrev w' : State
  w' = with_record w q r'

  here : record_at w' q ≡ Some r'
  here = unmoved.here w q r r' at

  there : (n : ℕ) → n ≢ q → record_at w' n ≡ record_at w n
  there n apart = unmoved.there w q r r' at n apart

  -- the facts about a record, except its place, do not change
  kept : {X : Type 0} (f : Option Record → X) → f (Some r') ≡ f (Some r) → (n : ℕ)
      → f (record_at w' n) ≡ f (record_at w n)
  kept f same n = unmoved.kept w q r r' at f same n

  kept_passage : (n : ℕ) → passage_of w' n ≡ passage_of w n
  kept_passage n = kept (λ v. option_and_then (λ r. kind_passage r.kind) v) (same_passage y r.kind) n

  kept_leaving : (n : ℕ) → leaving_of w' n ≡ leaving_of w n
  kept_leaving n =
      unmoved.kept-leaving w q r r' at
      (ap (option_map (λ p. p.source)) (same_passage y r.kind)) n

  pub kept-player : (p : ℕ) → is_player w' p ≡ is_player w p
  kept-player p = kept (λ v. option_map_or (λ r. is_player_kind r.kind) v false) (same_player y r.kind) p

  -- the place of another object does not change
  pub kept-place : (p : ℕ) → p ≢ q → place_of w' p ≡ place_of w p
  kept-place p apart = ap (option_and_then (λ r. kind_place r.kind)) (there p apart)

  -- and the object is in the new place
  pub placed-anew : is_player_kind r.kind ≡ true → place_of w' q ≡ Some y
  placed-anew player = ap (option_and_then (λ r. kind_place r.kind)) here ∙ new_place r.kind player
    where
      new_place : (k : Kind) → is_player_kind k ≡ true → kind_place (kind_at y k) ≡ Some y
      new_place Room e = absurd (true≢false (sym e))
      new_place (Exit a) e = absurd (true≢false (sym e))
      new_place (Thing q) e = absurd (true≢false (sym e))
      new_place (Player q) e = refl

  -- following places to q does not depend on the place of q
  pub comes-own : (n o : ℕ) → comes_to w' n o q ≡ comes_to w n o q
  comes-own zero o = refl
  comes-own (suc n) o =
      ⊎_elim
      (λ (e : o ≡ q).
      ap (λ b. b || option_map_or (λ c. comes_to w' n c q) (place_of w' o) false) (eq-eqb o q e)
      ∙ sym (ap (λ b. b || option_map_or (λ c. comes_to w n c q) (place_of w o) false) (eq-eqb o q e)))
      (λ apart.
      let again : (λ (c : ℕ). comes_to w' n c q) ≡ (λ (c : ℕ). comes_to w n c q) = λ i c. (comes-own n c) i in
      ap (λ v. nat_eq o q || option_map_or (λ c. comes_to w' n c q) (option_and_then (λ r. kind_place r.kind) v) false)
      (there o apart)
      ∙ ap (λ (f : ℕ → Bool). nat_eq o q || option_map_or f (place_of w o) false) again)
      (cases_eq o q)

  -- nor does following them to a player, if q is another one who goes from one room to another
  pub comes-other : (p a : ℕ) → is_player_kind r.kind ≡ true → p ≢ q → is_player w p ≡ true → place_of w q ≡ Some a
      → is_room w a ≡ true → is_room w y ≡ true → (n o : ℕ) → comes_to w' n o p ≡ comes_to w n o p
  comes-other p a player apart is from a_room y_room zero o = refl
  comes-other p a player apart is from a_room y_room (suc n) o =
      let there_room : is_room w' y ≡ true = kept_room y ∙ y_room in
      let there_player : is_player w' p ≡ true = kept-player p ∙ is in
      ⊎_elim
      (λ (e : o ≡ q).
      let now : place_of w' o ≡ Some y = ap (place_of w') e ∙ placed-anew player in
      let was : place_of w o ≡ Some a = ap (place_of w) e ∙ from in
      ap (λ v. nat_eq o p || option_map_or (λ c. comes_to w' n c p) v false) now
      ∙ ap (λ b. nat_eq o p || b) (room-comes w' n y p there_room there_player)
      ∙ sym (ap (λ v. nat_eq o p || option_map_or (λ c. comes_to w n c p) v false) was
      ∙ ap (λ b. nat_eq o p || b) (room-comes w n a p a_room is)))
      (λ elsewhere.
      let again : (λ (c : ℕ). comes_to w' n c p) ≡ (λ (c : ℕ). comes_to w n c p) =
      λ i c. (comes-other p a player apart is from a_room y_room n c) i in
      ap (λ v. nat_eq o p || option_map_or (λ c. comes_to w' n c p) (option_and_then (λ r. kind_place r.kind) v) false)
      (there o elsewhere)
      ∙ ap (λ (f : ℕ → Bool). nat_eq o p || option_map_or f (place_of w o) false) again)
      (cases_eq o q)
    where
      kept_room : (n : ℕ) → is_room w' n ≡ is_room w n
      kept_room n = kept (λ v. option_map_or (λ r. is_room_kind r.kind) v false) (same_room y r.kind) n

  -- ---- then what is open to p does not change, if following places to p does not
  module _ (p : ℕ) (comes : (n o : ℕ) → comes_to w' n o p ≡ comes_to w n o p) where
    pub kept-unlocked : (n : ℕ) → unlocked w' p n ≡ unlocked w p n
    kept-unlocked n = unmoved.kept-unlocked w q r r' at refl p comes n

    kept_passable : (n : ℕ) → passable w' p n ≡ passable w p n
    kept_passable n =
        let again : unlocked w' p ≡ unlocked w p = λ i n. (kept-unlocked n) i in
        ap (λ (f : ℕ → Bool). option_map_or (λ a. f n && f a.destination) (passage_of w' n) false) again
        ∙ ap (λ v. option_map_or (λ a. unlocked w p n && unlocked w p a.destination) v false) (kept_passage n)

    kept_step : (n : ℕ) → open_step w' p n ≡ open_step w p n
    kept_step n =
        ap (λ b. cond b
        (option_map (λ a. record { exit = n; to = a.destination; cost = a.cost }) (passage_of w' n)) None)
        (kept_passable n)
        ∙ ap (λ v. cond (passable w p n)
        (option_map (λ a. record { exit = n; to = a.destination; cost = a.cost }) v) None) (kept_passage n)

    pub kept-roads : roads_of w' p ≡ roads_of w p
    unfolding roads_of
    kept-roads =
        let step : open_step w' p ≡ open_step w p = λ i n. (kept_step n) i in
        λ i room. (ap (filter_map (open_step w' p)) (kept_leaving room)
        ∙ ap (λ (f : ℕ → Option Step). filter_map f (leaving_of w room)) step) i

-- ---- one step
has-exists : (w : State) (n : ℕ) (test : Record → Bool) → has w n test ≡ true → exists w n ≡ true
has-exists w n test is =
    record_cases (record_at w n)
    (λ e. absurd (true≢false (sym is ∙ ap (λ v. option_map_or test v false) e)))
    (λ r e. ap is_some e)

passage-exit : (w : State) (n : ℕ) (a : Passage) → passage_of w n ≡ Some a → is_exit w n ≡ true
passage-exit w n a is =
    record_cases (record_at w n)
    (λ e. let bad : None ≡ Some a = sym (ap (option_and_then (λ r. kind_passage r.kind)) e) ∙ is in absurd (cc))
    (λ r e. ap (λ v. option_map_or (λ r. is_exit_kind r.kind) v false) e
    ∙ of_kind r.kind (sym (ap (option_and_then (λ r. kind_passage r.kind)) e) ∙ is))
  where
    of_kind : (k : Kind) → kind_passage k ≡ Some a → is_exit_kind k ≡ true
    of_kind Room e = absurd (let bad : None ≡ Some a = e in cc)
    of_kind (Exit b) e = refl
    of_kind (Thing q) e = absurd (let bad : None ≡ Some a = e in cc)
    of_kind (Player q) e = absurd (let bad : None ≡ Some a = e in cc)

-- a player's change by an exit of its roads is legal
module _ (w : State) (p from : ℕ) (s : Step) (player : IsTrue (is_player w p)) (place : place_of w p ≡ Some from)
    (road : IsRoad w p from s) where
  abbrev ends : Passage
  ends = record { source = from; destination = s.to; cost = s.cost }

  abbrev change : Change
  change = record { actor = p; deed = WalkDeed s.exit }

  both-unlocked : (unlocked w p s.exit ≡ true) × (unlocked w p s.to ≡ true)
  both-unlocked =
      let is : (unlocked w p s.exit && unlocked w p s.to) ≡ true = sym
      (ap (λ v. option_map_or (λ (a : Passage). unlocked w p s.exit && unlocked w p a.destination) v false) road.0)
      ∙ road.1 in
      and_parts (unlocked w p s.exit) (unlocked w p s.to) is

  leaves : leaves_from w p s.exit ≡ true
  leaves =
      ap (λ v. option_map_or
      (λ room. is_number room (option_map (λ (a : Passage). a.source) (passage_of w s.exit))) v false) place
      ∙ ap (λ v. is_number from (option_map (λ (a : Passage). a.source) v)) road.0
      ∙ eq-eqb from from refl

  leads : destination_of w s.exit ≡ Some s.to
  leads = ap (option_map (λ (a : Passage). a.destination)) road.0

  none-fails : (f : Refusal) → fails w change f ≡ false
  none-fails NoSuch =
      or_from _ _ (not_from_true _ (has-exists w p (λ r. is_player_kind r.kind) player))
      (not_from_true _ (has-exists w s.exit (λ r. is_exit_kind r.kind) (passage-exit w s.exit ends road.0)))
  none-fails WrongKind = or_from _ _ (not_from_true _ player) (not_from_true _ (passage-exit w s.exit ends road.0))
  none-fails NotHere = not_from_true _ leaves
  none-fails LockedExit = not_from_true _ both-unlocked.0
  none-fails LockedRoom = not_from_true _ (ap (λ v. option_map_or (unlocked w p) v false) leads ∙ both-unlocked.1)
  none-fails f = refl

  pub step-legal : refusal w change ≡ None
  step-legal = (refusals_law w change).1.1 none-fails

  pub step-after : (r : Record) → record_at w p ≡ Some r
      → world_after w change ≡ with_record w p (record r { kind = kind_at s.to r.kind })
  step-after r at = ap (λ v. option_map_or (with_place w p) v w) leads ∙ moved_by w p s.to r at

-- ---- the whole walk
pub walks_law : (w : State) → IsSound w → (p from to : ℕ) (ss : List Step) → IsTrue (is_player w p)
    → place_of w p ≡ Some from
    → Walk (roads_of w p) from ss to → IsWalked w p ss to
walks_law w sound p from to [] player place walk = place ∙ ap (λ v. Some v) walk
walks_law w sound p from to (s ∷ ss) player place walk =
    let road = road-at w sound p from s walk.0 in
    let legal = step-legal w p from s player place road in (
      legal,
      record_cases (record_at w p)
          (λ e. absurd (true≢false (sym player ∙ ap (λ v. option_map_or (λ r. is_player_kind r.kind) v false) e)))
          (λ r at.
          let is = step-after w p from s player place road r at in
          let kind : is_player_kind r.kind ≡ true =
          sym (ap (λ v. option_map_or (λ r. is_player_kind r.kind) v false) at) ∙ player in
          let moved-sound =
          subst IsSound is (soundness_law w (record { actor = p; deed = WalkDeed s.exit }) sound legal) in
          let rest : Walk (roads_of (with_record w p (record r { kind = kind_at s.to r.kind })) p) s.to ss to =
          subst (λ (roads : Roads). Walk roads s.to ss to)
          (sym (kept-roads w p s.to r at p (comes-own w p s.to r at))) walk.1 in
          let P : State → Type 0 = λ v. IsWalked v p ss to in
          subst P (sym is)
          (walks_law (with_record w p (record r { kind = kind_at s.to r.kind })) moved-sound p s.to to ss
          (kept-player w p s.to r at p ∙ player) (placed-anew w p s.to r at kind) rest)),
    )

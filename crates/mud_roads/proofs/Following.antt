-- The knowledge of a traveller after a change.
use Rattle.std.proofs.Common.{◌≡◌, ◌≢◌, ℕ, zero, suc, ◌-◌, ◌<◌, ◌≤◌, Bool, true, false, List, [], ◌∷◌, ◌++◌, length}
use Rattle.std.proofs.Common.{map}
use Rattle.std.proofs.Common.{get_or, Option, Some, None, refl, sym, ◌∙◌, ap, subst, ⊎_elim, arith, append-nil}
use Rattle.std.specs.Prelude.{IsTrue, is_none, is_some, if◌then◌else◌}
use Rattle.std.specs.Option.{option_map, option_map_or, option_and_then}
use Rattle.std.specs.List.{filter_map, range_with_len}
use Rattle.std.proofs.lemmas.Bool.{cases_eq, cases_lt, and_parts, or_parts, not-false, true≢false}
use Rattle.std.proofs.lemmas.List.{length-append, length-map, get_or_append_left, get_or-append_right, get_or_past}
use Rattle.std.proofs.lemmas.List.FromFn.{length-map-range_with_len, get_or-map-range_with_len}
use Rattle.mud_world.specs.declared.record.Passage.{Passage}
use Rattle.mud_world.specs.declared.record.Record.{Record}
use Rattle.mud_world.specs.declared.record.Kind.{Kind}
use Rattle.mud_world.specs.declared.record.Kind.TheVariants.{Room, Exit, Thing, Player}
use Rattle.mud_world.specs.declared.change.Change.{Change}
use Rattle.mud_world.specs.declared.change.Deed.{Deed}
use Rattle.mud_world.specs.declared.change.Deed.TheVariants.{Say, Emote, Walk, Rename, Cost, Lock, Unlock, Move}
use Rattle.mud_world.specs.declared.change.Deed.TheVariants.{Make, Dig, Recycle, Player as NewPlayer}
use Rattle.mud_world.specs.declared.refusal.Refusal.TheVariants.{WrongKind}
use Rattle.mud_world.specs.Kinds.{kind_at, kind_costing, kind_place, kind_passage, is_player_kind}
use Rattle.mud_world.specs.State.{State, record_at, is_room, is_player, place_of, comes_to, passage_of, destination_of}
use Rattle.mud_world.specs.State.{is_number, leaving_of, unlocked}
use Rattle.mud_world.specs.KeyIndex.{IsKeyIndex}
use Rattle.mud_world.specs.Sound.{IsSound, IsPlacedWell}
use Rattle.mud_world.specs.Legal.{refusal, after, with_new, with_record_changed, new_record, dig_records}
use Rattle.mud_world.specs.History.{step_or_same}
use Rattle.mud_world.specs.inner.CanGo.{CanRemove}
use Rattle.mud_world.specs.inner.Fields.{without_object, with_record, with_place, with_names, with_cost}
use Rattle.mud_world.proofs.Forgetting.{passing-drop, passing-skip}
use Rattle.mud_world.proofs.Records.{bool_cases, record_cases, in_bounds}
use Rattle.mud_world.proofs.Removing.{lookup-remove_other, lookup-remove_same}
use Rattle.mud_world.proofs.Carrying.{has-above}
use Rattle.mud_world.proofs.Editing.{changed_by}
use Rattle.mud_world.proofs.Going.{moved_by}
use Rattle.mud_world.proofs.KindLemmas.{same_passage, same_player}
use Rattle.mud_world.proofs.Least.{refusals_law}
use Rattle.mud_world.proofs.Older.{record-kept, unlocked-kept}
use Rattle.mud_world.proofs.Recycling.{CanRemove-recycle, with_this_cost, links-cost, kind-player}
use Rattle.mud_world.proofs.Sounding.{soundness_law}
use Rattle.mud_roads.specs.declared.label.Step.{Step}
use Rattle.mud_roads.specs.Passable.{Knowledge, IsTraveller, IsDrawn, IsFollower, keeps_locks, known_roads}
use Rattle.mud_roads.specs.Passable.{knowledge_of, knows_unlocked, tested_step, tested_roads, roads_of}
use Rattle.mud_roads.specs.inner.Tables.{costing, Knows}
use Rattle.mud_roads.specs.inner.Growing.{heeding, moved_to, forgetting, adjusted, step_from, is_marked, IsGrown}
use Rattle.mud_roads.proofs.Roads.{passage_cases, no-exits-past}
use Rattle.mud_roads.proofs.Walking.{kept-unlocked}
use Rattle.mud_roads.proofs.Walking.{comes-own, comes-other}
use Rattle.mud_roads.proofs.Recosting.{roads-recosted, roads-alike, passages-same, passages-changed}
use Rattle.mud_roads.proofs.Enlarging.{roads-enlarged}
use Rattle.mud_roads.proofs.Recycled.{steps-without, forgets}
use Rattle.mud_roads.proofs.Unmoved as still

player-below : (w : State) → IsSound w → (p : ℕ) → is_player w p ≡ true → p < w.next
player-below w sound p player =
    record_cases (record_at w p)
    (λ e. absurd (true≢false (sym player ∙ ap (λ v. option_map_or (λ r. is_player_kind r.kind) v false) e)))
    (λ r e. (in_bounds 0 w.next p r w.objects sound.rising e).1)

-- the rows with a new cost for the steps of exit x
recosted_row : (x cost : ℕ) (rows : List (List Step)) (room : ℕ)
    → get_or (map (map (costing x cost)) rows) room [] ≡ map (costing x cost) (get_or rows room [])
recosted_row x cost [] room = refl
recosted_row x cost (row ∷ rows) zero = refl
recosted_row x cost (row ∷ rows) (suc room) = recosted_row x cost rows room

-- a follower is current if it was before and the change keeps the locks
was_current : (d : Deed) (t : Knowledge) → IsTrue (heeding d t).current → IsTrue t.current × IsTrue (keeps_locks d)
was_current d t is = and_parts t.current (keeps_locks d) is

-- the player has a place in the world now, and the follower there, adjusted by the deed, follows that world
record Heeds (now : State) (d : Deed) (t : Knowledge) : Type 0 where
  pub place : ℕ
  pub there : place_of now t.player ≡ Some place
  pub known : IsDrawn now (adjusted now d (moved_to (heeding d t) (Some place)))

player_apart : (w : State) (p n : ℕ) → is_player w p ≡ true → is_player w n ≡ false → p ≢ n
player_apart w p n player other same = true≢false (sym player ∙ ap (is_player w) same ∙ other)

-- taking over the cost that an exit has, or dropping an object that is not there, changes nothing
adjusted_same : (w : State) → IsSound w → (t : Knowledge) → IsDrawn w t → (d : Deed) → IsDrawn w (adjusted w d t)
adjusted_same w sound t known (Recycle n) =
    record_cases (record_at w n)
    (λ e. subst (λ (v : Option Record). IsDrawn w (if is_some v then t else forgetting n t)) (sym e)
    (forgets w w sound n e (λ x off. refl) refl t known (λ g room none. refl)
    (player_apart w t.player n known.player (ap (λ v. option_map_or (λ r. is_player_kind r.kind) v false) e)) t.current
    (λ is x. (known.current is x, refl))))
    (λ r e. subst (λ (v : Option Record). IsDrawn w (if is_some v then t else forgetting n t)) (sym e) known)
adjusted_same w sound t known (Cost x cost) =
    passage_cases (passage_of w x)
    (λ e. subst (λ (v : Option Passage). IsDrawn w
    (option_map_or (λ (a : Passage). record t { rows = map (map (costing x a.cost)) t.rows }) v t)) (sym e) known)
    (λ a e. subst (λ (v : Option Passage). IsDrawn w
    (option_map_or (λ (a : Passage). record t { rows = map (map (costing x a.cost)) t.rows }) v t)) (sym e)
    (record {
      player = known.player;
      place = known.place;
      marked = known.marked;
      lined = length-map t.rows (map (costing x a.cost)) ∙ known.lined;
      drawn = λ room. recosted_row x a.cost t.rows room ∙ ap (map (costing x a.cost)) (known.drawn room)
          ∙ sym (roads-recosted w w (knows_unlocked t) x a.cost (passages-same w x a e) (λ room. refl) room);
      current = known.current;
    }))
adjusted_same w sound t known d = known

-- ---- a player's place
seated_in : (w : State) → IsSound w → (q : ℕ) (r : Record) → record_at w q ≡ Some r → is_player_kind r.kind ≡ true
    → (a : ℕ) × (place_of w q ≡ Some a) × (is_room w a ≡ true)
seated_in w sound q r at player = of_kind r.kind player (sound.placed q r at)
    (ap (option_and_then (λ (s : Record). kind_place s.kind)) at)
  where
    of_kind : (k : Kind) → is_player_kind k ≡ true → IsPlacedWell w k → place_of w q ≡ kind_place k
        → (a : ℕ) × (place_of w q ≡ Some a) × (is_room w a ≡ true)
    of_kind Room e well is = absurd (true≢false (sym e))
    of_kind (Exit p) e well is = absurd (true≢false (sym e))
    of_kind (Thing p) e well is = absurd (true≢false (sym e))
    of_kind (Player p) e well is = (p, is, well)

room_behind : (w : State) → IsSound w → (x d : ℕ) → destination_of w x ≡ Some d → is_room w d ≡ true
room_behind w sound x d at =
    record_cases (record_at w x)
    (λ e. let bad : None ≡ Some d =
    sym (ap (λ v. option_map (λ p. p.destination) (option_and_then (λ r. kind_passage r.kind) v)) e)
    ∙ at in absurd (cc))
    (λ r e. of_kind r.kind
    (sym (ap (λ v. option_map (λ p. p.destination) (option_and_then (λ r. kind_passage r.kind) v)) e) ∙ at)
    (sound.placed x r e))
  where
    of_kind : (k : Kind) → option_map (λ p. p.destination) (kind_passage k) ≡ Some d → IsPlacedWell w k
        → is_room w d ≡ true
    of_kind Room e well = absurd (let bad : None ≡ Some d = e in cc)
    of_kind (Exit p) e well = let same : p.destination ≡ d = cc in subst (λ (v : ℕ). is_room w v ≡ true) same well.1
    of_kind (Thing p) e well = absurd (let bad : None ≡ Some d = e in cc)
    of_kind (Player p) e well = absurd (let bad : None ≡ Some d = e in cc)

-- ---- worlds with the same exits
-- the world now has the same players and exits
record HasExitsOf (now w : State) : Type 0 where
  pub next : now.next ≡ w.next
  pub players : (n : ℕ) → is_player now n ≡ is_player w n
  pub passages : (n : ℕ) → passage_of now n ≡ passage_of w n
  pub leaving : (room : ℕ) → leaving_of now room ≡ leaving_of w room

-- the object n gets another record with the same ends, and is a player if it was one
with_exits : (w : State) (n : ℕ) (f : Record → Record) → ((r : Record) → kind_passage (f r).kind ≡ kind_passage r.kind)
    → ((r : Record) → is_player_kind (f r).kind ≡ is_player_kind r.kind) → HasExitsOf (with_record_changed w n f) w
with_exits w n f ends players =
    record_cases (record_at w n)
    (λ e. subst (λ (v : State). HasExitsOf v w) (sym (ap (λ v. option_map_or (λ r. with_record w n (f r)) v w) e))
    (record { next = refl; players = λ n. refl; passages = λ n. refl; leaving = λ room. refl }))
    (λ r e. subst (λ (v : State). HasExitsOf v w) (sym (changed_by w n f r e))
    (record {
      next = refl;
      players = still.kept w n r (f r) e (λ v. option_map_or (λ r. is_player_kind r.kind) v false) (players r);
      passages = still.kept w n r (f r) e (option_and_then (λ r. kind_passage r.kind)) (ends r);
      leaving = still.kept-leaving w n r (f r) e (ap (option_map (λ p. p.source)) (ends r));
    }))

-- a follower in such a world
module _ (w now : State) (sound : IsSound now) (exits : HasExitsOf now w) (t : Knowledge) (known : IsDrawn w t)
    (d : Deed) (keeps : IsTrue (keeps_locks d) → (n : ℕ) → unlocked now t.player n ≡ unlocked w t.player n) where
  here : is_player now t.player ≡ true
  here = exits.players t.player ∙ known.player

  seat : (a : ℕ) × (place_of now t.player ≡ Some a)
  seat = record_cases (record_at now t.player)
      (λ e. absurd (true≢false (sym here ∙ ap (λ v. option_map_or (λ r. is_player_kind r.kind) v false) e)))
      (λ r e.
      let found = seated_in now sound t.player r e
      (sym (ap (λ v. option_map_or (λ r. is_player_kind r.kind) v false) e) ∙ here) in
      (found.0, found.1))

  heeds : Heeds now d t
  heeds = record {
    place = seat.0;
    there = seat.1;
    known = adjusted_same now sound (moved_to (heeding d t) (Some seat.0)) (record {
      player = here;
      place = seat.1;
      marked = known.marked ∙ sym exits.next;
      lined = known.lined ∙ sym exits.next;
      drawn = λ room. known.drawn room
          ∙ sym (roads-alike w now (knows_unlocked t) exits.passages exits.leaving room);
      current = λ is n.
          let was = was_current d t is in
          known.current was.0 n ∙ sym (keeps was.1 n);
    }) d;
  }

-- the world stays as it is
unmoved : (w : State) → IsSound w → (t : Knowledge) → IsDrawn w t → (d : Deed) → Heeds w d t
unmoved w sound t known d =
    heeds w w sound (record { next = refl; players = λ n. refl; passages = λ n. refl; leaving = λ room. refl }) t known
    d (λ is n. refl)

-- ---- walks
-- what is unlocked for p stays so when the player q walks to the room y
module _ (w : State) (sound : IsSound w) (p : ℕ) (player' : is_player w p ≡ true) (q y : ℕ) (r : Record)
    (at : record_at w q ≡ Some r) (player : is_player_kind r.kind ≡ true) (room : is_room w y ≡ true) where
  abbrev walked : State
  walked = with_record w q (record r { kind = kind_at y r.kind })

  still_unlocked : (n : ℕ) → unlocked walked p n ≡ unlocked w p n
  still_unlocked =
      ⊎_elim
      (λ (same : p ≡ q). kept-unlocked w q y r at p
      (subst (λ (p : ℕ). (n o : ℕ) → comes_to walked n o p ≡ comes_to w n o p) (sym same) (comes-own w q y r at)))
      (λ apart.
      let from = seated_in w sound q r at player in
      kept-unlocked w q y r at p (comes-other w q y r at p from.0 player apart player' from.1 from.2 room))
      (cases_eq p q)

-- ---- a legal walk through x
module _ (w : State) (sound : IsSound w) (p : ℕ) (player' : is_player w p ≡ true) (q x : ℕ)
    (legal : refusal w (record { actor = q; deed = Walk x }) ≡ None) where
  abbrev change : Change
  change = record { actor = q; deed = Walk x }

  walker : is_player w q ≡ true
  walker = not-false _ (or_parts _ _ ((refusals_law w change).1.0 legal WrongKind)).0

  leads : (v : Option ℕ) → destination_of w x ≡ v → (n : ℕ)
      → unlocked (option_map_or (with_place w q) v w) p n ≡ unlocked w p n
  leads None at n = refl
  leads (Some d) at n =
      record_cases (record_at w q)
      (λ e. absurd (true≢false (sym walker ∙ ap (λ v. option_map_or (λ r. is_player_kind r.kind) v false) e)))
      (λ r e.
      let player : is_player_kind r.kind ≡ true =
      sym (ap (λ v. option_map_or (λ r. is_player_kind r.kind) v false) e) ∙ walker in
      ap (λ (v : State). unlocked v p n) (moved_by w q d r e)
      ∙ still_unlocked w sound p player' q d r e player (room_behind w sound x d at) n)

  unlocked-walked : (n : ℕ) → unlocked (after w change) p n ≡ unlocked w p n
  unlocked-walked = leads (destination_of w x) refl

-- the exits after it
walked_exits : (w : State) (q : ℕ) (v : Option ℕ) → HasExitsOf (option_map_or (with_place w q) v w) w
walked_exits w q None = record { next = refl; players = λ n. refl; passages = λ n. refl; leaving = λ room. refl }
walked_exits w q (Some d) =
    with_exits w q (λ r. record r { kind = kind_at d r.kind }) (λ r. same_passage d r.kind) (λ r. same_player d r.kind)

-- ---- other names
unlocked_named : (w : State) (p n : ℕ) (names : List (List ℕ)) (o : ℕ)
    → unlocked (with_names w n names) p o ≡ unlocked w p o
unlocked_named w p n names o =
    record_cases (record_at w n)
    (λ e. ap (λ v. unlocked (option_map_or (λ (r : Record). with_record w n (record r { names = names })) v w) p o) e)
    (λ r e.
    ap (λ v. unlocked (option_map_or (λ (r : Record). with_record w n (record r { names = names })) v w) p o) e
    ∙ still.kept-unlocked w n r (record r { names = names }) e refl p
    (still.comes-kept w n r (record r { names = names }) e refl p) o)

-- ---- another cost
module _ (w : State) (t : Knowledge) (known : IsDrawn w t) (x cost : ℕ) (r : Record)
    (e : record_at w x ≡ Some r) where
  abbrev r' : Record
  r' = with_this_cost cost r

  abbrev costed : State
  costed = with_record w x r'

  abbrev heeded : Knowledge
  heeded = heeding (Cost x cost) t

  player_still : is_player costed t.player ≡ true
  player_still =
      still.kept w x r r' e (λ v. option_map_or (λ r. is_player_kind r.kind) v false) (kind-player cost r.kind) t.player
      ∙ known.player

  place_still : place_of costed t.player ≡ Some t.place
  place_still =
      still.kept w x r r' e (option_and_then (λ r. kind_place r.kind)) (links-cost cost r.kind).place t.player
      ∙ known.place

  current_still : IsTrue heeded.current → (n : ℕ) → knows_unlocked t n ≡ unlocked costed t.player n
  current_still is n =
      known.current (was_current (Cost x cost) t is).0 n
      ∙ sym (still.kept-unlocked w x r r' e refl t.player
      (still.comes-kept w x r r' e (links-cost cost r.kind).place t.player) n)

  -- an object that is not an exit stays as it was
  as_before : (k : Kind) → r.kind ≡ k → kind_costing cost k ≡ k → kind_passage k ≡ None
      → IsDrawn costed (adjusted costed (Cost x cost) heeded)
  as_before k kind same none =
      let like : kind_costing cost r.kind ≡ r.kind = ap (kind_costing cost) kind ∙ same ∙ sym kind in
      let at : passage_of costed x ≡ None =
      ap (option_and_then (λ r. kind_passage r.kind)) (still.here w x r r' e) ∙ ap kind_passage (like ∙ kind) ∙ none in
      subst (λ (v : Option Passage). IsDrawn costed (option_map_or
      (λ (a : Passage). record heeded { rows = map (map (costing x a.cost)) t.rows }) v heeded)) (sym at)
      (record {
        player = player_still;
        place = place_still;
        marked = known.marked;
        lined = known.lined;
        drawn = λ room. known.drawn room ∙ sym (roads-alike w costed (knows_unlocked t)
            (still.kept w x r r' e (option_and_then (λ r. kind_passage r.kind)) (ap kind_passage like))
            (still.kept-leaving w x r r' e (links-cost cost r.kind).source) room);
        current = current_still;
      })

  of_kind : (k : Kind) → r.kind ≡ k → IsDrawn costed (adjusted costed (Cost x cost) heeded)
  of_kind (Exit p) kind =
      let at : passage_of costed x ≡ Some (record p { cost = cost }) =
      ap (option_and_then (λ r. kind_passage r.kind)) (still.here w x r r' e)
      ∙ ap (λ k. kind_passage (kind_costing cost k)) kind in
      subst (λ (v : Option Passage). IsDrawn costed (option_map_or
      (λ (a : Passage). record heeded { rows = map (map (costing x a.cost)) t.rows }) v heeded)) (sym at)
      (record {
        player = player_still;
        place = place_still;
        marked = known.marked;
        lined = length-map t.rows (map (costing x cost)) ∙ known.lined;
        drawn = λ room. recosted_row x cost t.rows room ∙ ap (map (costing x cost)) (known.drawn room)
            ∙ sym (roads-recosted w costed (knows_unlocked t) x cost (passages-changed w x cost r e)
            (still.kept-leaving w x r r' e (links-cost cost r.kind).source) room);
        current = current_still;
      })
  of_kind Room kind = as_before Room kind refl refl
  of_kind (Thing p) kind = as_before (Thing p) kind refl refl
  of_kind (Player p) kind = as_before (Player p) kind refl refl

  heeds_cost : Heeds costed (Cost x cost) t
  heeds_cost = record { place = t.place; there = place_still; known = of_kind r.kind refl }

heeds_cost_set : (w : State) → IsSound w → (t : Knowledge) → IsDrawn w t → (x cost : ℕ)
    → Heeds (with_cost w x cost) (Cost x cost) t
heeds_cost_set w sound t known x cost =
    record_cases (record_at w x)
    (λ e. subst (λ (v : State). Heeds v (Cost x cost) t)
    (sym (ap (λ v. option_map_or (λ (r : Record). with_record w x (with_this_cost cost r)) v w) e))
    (unmoved w sound t known (Cost x cost)))
    (λ r e. subst (λ (v : State). Heeds v (Cost x cost) t)
    (sym (ap (λ v. option_map_or (λ (r : Record). with_record w x (with_this_cost cost r)) v w) e))
    (heeds_cost w t known x cost r e))

-- ---- an object that is gone
module _ (w : State) (sound : IsSound w) (t : Knowledge) (known : IsDrawn w t) (n : ℕ) (can : CanRemove w n)
    (sound' : IsSound (without_object w n)) where
  abbrev left : State
  left = without_object w n

  gone : record_at left n ≡ None
  gone = lookup-remove_same n 0 w.next w.objects sound.rising

  kept : (x : ℕ) → x ≢ n → record_at left x ≡ record_at w x
  kept x off = lookup-remove_other n x off w.objects

  apart : t.player ≢ n
  apart = player_apart w t.player n known.player can.no_player

  leaves : ℕ → Record → Bool
  leaves room = λ r. is_number room (option_map (λ a. a.source) (kind_passage r.kind))

  -- the exits of a room, but for one that has no step
  steps_left : (g : ℕ → Option Step) (room : ℕ) → g n ≡ None
      → filter_map g (leaving_of left room) ≡ filter_map g (leaving_of w room)
  unfolding leaves
  steps_left g room none =
      record_cases (record_at w n)
      (λ e. absurd (true≢false (sym can.there ∙ ap is_some e)))
      (λ r e.
      bool_cases (leaves room r)
      (λ is.
      ap (filter_map g) (passing-drop (leaves room) n 0 w.next r w.objects sound.rising e is)
      ∙ steps-without g n none (leaving_of w room))
      (λ off. ap (filter_map g) (passing-skip (leaves room) n r w.objects e off)))

  heeds_gone : Heeds left (Recycle n) t
  heeds_gone = record {
    place = t.place;
    there = ap (option_and_then (λ r. kind_place r.kind)) (kept t.player apart) ∙ known.place;
    known = subst (λ (v : Option Record). IsDrawn left
        (if is_some v then heeding (Recycle n) t else forgetting n (heeding (Recycle n) t))) (sym gone)
        (forgets w left sound' n gone kept refl t known steps_left apart (heeding (Recycle n) t).current
        (λ is x. absurd (true≢false (sym (was_current (Recycle n) t is).1))));
  }

-- ---- new objects
-- the knowledge after the deed, and after growing to this world
abbrev Grows : State → Deed → Knowledge → Type 0
Grows now d t =
    (t' : Knowledge) → IsGrown now (adjusted now d (moved_to (heeding d t) (place_of now t.player))) t'
    → IsDrawn now t'

-- a follower that knows all objects stays as it is
grown_none : (now : State) (t t' : Knowledge) → IsDrawn now t → IsGrown now t t' → IsDrawn now t'
grown_none now t t' known grown =
    let none : now.next - length t.marks ≡ 0 = let size = known.marked in omega (arith, size) in
    let marks : t'.marks ≡ t.marks =
    grown.marks ∙ ap (λ (n : ℕ). t.marks ++ map (unlocked now t.player) (range_with_len (length t.marks) n)) none
    ∙ append-nil t.marks in
    let lined : length t'.rows ≡ length t.rows = let size = grown.lined in omega (arith, size, none) in
    let rows : (room : ℕ) → get_or t'.rows room [] ≡ get_or t.rows room [] = λ room.
    ⊎_elim
    (λ (lt : room < length t'.rows).
    grown.rows room lt
    ∙ ap (λ (n : ℕ). get_or t.rows room [] ++ filter_map (step_from now (is_marked t'.marks) room)
    (range_with_len (length t.marks) n)) none
    ∙ append-nil (get_or t.rows room []))
    (λ (le : length t'.rows ≤ room). get_or_past t'.rows room [] le
    ∙ sym (get_or_past t.rows room [] (omega (arith, le, lined))))
    (cases_lt room (length t'.rows)) in
    record {
      player = ap (is_player now) grown.player ∙ known.player;
      place = ap (place_of now) grown.player ∙ known.place ∙ ap (λ (p : ℕ). Some p) (sym grown.place);
      marked = ap length marks ∙ known.marked;
      lined = lined ∙ known.lined;
      drawn = λ room. rows room ∙ known.drawn room
          ∙ ap (λ (ms : List Bool). tested_roads now (is_marked ms) room) (sym marks);
      current = λ is n. ap (λ (ms : List Bool). get_or ms n false) marks
          ∙ known.current (sym grown.current ∙ is) n
          ∙ ap (λ (p : ℕ). unlocked now p n) (sym grown.player);
    }

module _ (w : State) (sound : IsSound w) (rs : List Record) (sound' : IsSound (with_new w rs)) (t t' : Knowledge)
    (known : IsDrawn w t) (grown : IsGrown (with_new w rs) t t') where
  abbrev larger : State
  larger = with_new w rs

  abbrev p : ℕ
  p = t.player

  abbrev new : List Bool
  new = map (unlocked larger p) (range_with_len w.next (length rs))

  more : larger.next - length t.marks ≡ length rs
  more = let size = known.marked in omega (arith, size)

  p_below : p < w.next
  p_below = player-below w sound p known.player

  all_marks : t'.marks ≡ t.marks ++ new
  all_marks =
      grown.marks
      ∙ ap (λ (n : ℕ). t.marks ++ map (unlocked larger p) (range_with_len (length t.marks) n)) more
      ∙ ap (λ (n : ℕ). t.marks ++ map (unlocked larger p) (range_with_len n (length rs))) known.marked

  marked_all : length t'.marks ≡ larger.next
  marked_all =
      let size = length-append t.marks new in
      let count = length-map-range_with_len (unlocked larger p) w.next (length rs) in
      let old = known.marked in
      ap length all_marks ∙ omega (arith, size, count, old)

  -- the older marks stay as they were, and the new ones are true
  marks_kept : (n : ℕ) → n < w.next → is_marked t'.marks n ≡ is_marked t.marks n
  marks_kept n lt =
      let old = known.marked in
      ap (λ (ms : List Bool). get_or ms n false) all_marks
      ∙ get_or_append_left t.marks new false n (omega (arith, lt, old))

  marks_new : (n : ℕ) → w.next ≤ n → is_marked t'.marks n ≡ unlocked larger p n
  marks_new n le =
      ⊎_elim
      (λ (lt : n < larger.next).
      ap (λ (ms : List Bool). get_or ms n false) all_marks
      ∙ get_or-append_right t.marks new w.next n false known.marked le
      ∙ get_or-map-range_with_len (unlocked larger p) w.next (length rs) (n - w.next) n false
      (omega (arith, lt, le)) (omega (arith, le)))
      (λ (past : larger.next ≤ n).
      let long = marked_all in
      get_or_past t'.marks n false (omega (arith, past, long)) ∙ sym (has-above larger sound' n past _))
      (cases_lt n larger.next)

  marks_true : IsTrue t.current → (n : ℕ) → is_marked t'.marks n ≡ unlocked larger p n
  marks_true is n =
      ⊎_elim
      (λ (lt : n < w.next). marks_kept n lt ∙ known.current is n ∙ sym (unlocked-kept w sound rs p n lt))
      (λ (le : w.next ≤ n). marks_new n le)
      (cases_lt n w.next)

  lined_all : length t'.rows ≡ larger.next
  lined_all = let size = grown.lined in let old = known.lined in let count = more in omega (arith, size, old, count)

  -- a room that is not there has no roads
  none_past : (room : ℕ) → larger.next ≤ room → tested_roads larger (is_marked t'.marks) room ≡ []
  none_past room past =
      ap (filter_map (tested_step larger (is_marked t'.marks))) (no-exits-past larger sound' room past)

  rows_drawn : (room : ℕ) → known_roads t' room ≡ tested_roads larger (is_marked t'.marks) room
  rows_drawn room =
      ⊎_elim
      (λ (lt : room < length t'.rows).
      let new_steps = λ (ns : List ℕ). filter_map (step_from larger (is_marked t'.marks) room) ns in
      grown.rows room lt
      ∙ ap (λ (ss : List Step). ss ++ new_steps (range_with_len (length t.marks) (larger.next - length t.marks)))
      (known.drawn room)
      ∙ ap (λ (n : ℕ). tested_roads w (is_marked t.marks) room ++ new_steps (range_with_len (length t.marks) n)) more
      ∙ ap (λ (n : ℕ). tested_roads w (is_marked t.marks) room ++ new_steps (range_with_len n (length rs))) known.marked
      ∙ sym (roads-enlarged w sound rs (is_marked t.marks) (is_marked t'.marks) marks_kept room))
      (λ (le : length t'.rows ≤ room).
      let long = lined_all in
      get_or_past t'.rows room [] le ∙ sym (none_past room (omega (arith, le, long))))
      (cases_lt room (length t'.rows))

  grown_more : IsDrawn larger t'
  grown_more = record {
    player = ap (is_player larger) grown.player
        ∙ ap (λ v. option_map_or (λ r. is_player_kind r.kind) v false) (record-kept w sound rs p p_below)
        ∙ known.player;
    place = ap (place_of larger) grown.player
        ∙ ap (option_and_then (λ r. kind_place r.kind)) (record-kept w sound rs p p_below) ∙ known.place
        ∙ ap (λ (n : ℕ). Some n) (sym grown.place);
    marked = marked_all;
    lined = lined_all;
    drawn = rows_drawn;
    current = λ is n. marks_true (sym grown.current ∙ is) n ∙ ap (λ (q : ℕ). unlocked larger q n) (sym grown.player);
  }

-- ---- a change, legal or not
module _ (w : State) (sound : IsSound w) (t : Knowledge) (known : IsDrawn w t) where
  -- a change that adds no object
  grows_none : (now : State) (d : Deed) → Heeds now d t → Grows now d t
  grows_none now d it t' grown =
      grown_none now (adjusted now d (moved_to (heeding d t) (Some it.place))) t' it.known
      (subst (λ (v : Option ℕ). IsGrown now (adjusted now d (moved_to (heeding d t) v)) t') it.there grown)

  -- one that adds some, and keeps the locks
  grows_more : (rs : List Record) → IsSound (with_new w rs) → (t' : Knowledge) → (d : Deed)
      → IsGrown (with_new w rs) (moved_to (heeding d t) (place_of (with_new w rs) t.player)) t'
      → IsDrawn (with_new w rs) t'
  grows_more rs sound' t' d grown =
      let below = player-below w sound t.player known.player in
      let there : place_of (with_new w rs) t.player ≡ Some t.place =
      ap (option_and_then (λ r. kind_place r.kind)) (record-kept w sound rs t.player below) ∙ known.place in
      grown_more w sound rs sound' (heeding d t) t' (record {
        player = known.player;
        place = known.place;
        marked = known.marked;
        lined = known.lined;
        drawn = known.drawn;
        current = λ is. known.current (was_current d t is).0;
      }) (subst (λ (v : Option ℕ). IsGrown (with_new w rs) (moved_to (heeding d t) v) t') there grown)

  -- one that may open or close something
  doubts : (n : ℕ) (f : Record → Record) (d : Deed) → keeps_locks d ≡ false
      → ((r : Record) → kind_passage (f r).kind ≡ kind_passage r.kind)
      → ((r : Record) → is_player_kind (f r).kind ≡ is_player_kind r.kind)
      → IsSound (with_record_changed w n f) → Heeds (with_record_changed w n f) d t
  doubts n f d may ends players sound' =
      heeds w (with_record_changed w n f) sound' (with_exits w n f ends players) t known d
      (λ keeps. absurd (true≢false (sym keeps ∙ may)))

  after_legal : (q : ℕ) (d : Deed) → refusal w (record { actor = q; deed = d }) ≡ None
      → IsSound (after w (record { actor = q; deed = d })) → Grows (after w (record { actor = q; deed = d })) d t
  after_legal q (Say text) legal sound' = grows_none _ (Say text) (unmoved w sound t known (Say text))
  after_legal q (Emote text) legal sound' = grows_none _ (Emote text) (unmoved w sound t known (Emote text))
  after_legal q (Walk x) legal sound' =
      grows_none _ (Walk x) (heeds w _ sound' (walked_exits w q (destination_of w x)) t known (Walk x)
      (λ keeps. unlocked-walked w sound t.player known.player q x legal))
  after_legal q (Rename n names) legal sound' =
      grows_none _ (Rename n names) (heeds w _ sound'
      (with_exits w n (λ r. record r { names = names }) (λ r. refl) (λ r. refl)) t known (Rename n names)
      (λ keeps. unlocked_named w t.player n names))
  after_legal q (Cost x cost) legal sound' = grows_none _ (Cost x cost) (heeds_cost_set w sound t known x cost)
  after_legal q (Lock n key) legal sound' =
      grows_none _ (Lock n key)
      (doubts n (λ r. record r { key = Some key }) (Lock n key) refl (λ r. refl) (λ r. refl) sound')
  after_legal q (Unlock n) legal sound' =
      grows_none _ (Unlock n) (doubts n (λ r. record r { key = None }) (Unlock n) refl (λ r. refl) (λ r. refl) sound')
  after_legal q (Move n to) legal sound' =
      grows_none _ (Move n to)
      (doubts n (λ r. record r { kind = kind_at to r.kind }) (Move n to) refl (λ r. same_passage to r.kind)
      (λ r. same_player to r.kind) sound')
  after_legal q (Make names) legal sound' =
      λ t'. grows_more (new_record q names (Thing q) ∷ []) sound' t' (Make names)
  after_legal q (NewPlayer name) legal sound' =
      λ t'. grows_more (new_record q (name ∷ []) (Player 0) ∷ []) sound' t' (NewPlayer name)
  after_legal q (Dig target doors) legal sound' =
      λ t'. grows_more (dig_records w q target doors) sound' t' (Dig target doors)
  after_legal q (Recycle n) legal sound' =
      grows_none _ (Recycle n) (heeds_gone w sound t known n (CanRemove-recycle w q n legal) sound')

  pub grows : (e : Change) → (now : State) → now ≡ step_or_same w e → Grows now e.deed t
  grows e now step =
      by_refusal (refusal w e) refl
    where
      by_refusal : (v : Option _) → refusal w e ≡ v → Grows now e.deed t
      by_refusal None legal =
          subst (λ (s : State). Grows s e.deed t)
          (sym (step ∙ ap (λ v. if is_none v then after w e else w) legal))
          (after_legal e.actor e.deed legal (soundness_law w e sound legal))
      by_refusal (Some f) illegal =
          subst (λ (s : State). Grows s e.deed t)
          (sym (step ∙ ap (λ v. if is_none v then after w e else w) illegal))
          (grows_none w e.deed (unmoved w sound t known e.deed))

-- ---- travellers and drawings
pub traveller-drawn : (w : State) (t : Knowledge) → IsTraveller w t → IsDrawn w t
unfolding roads_of
traveller-drawn w t is =
    let tests : unlocked w t.player ≡ knows_unlocked t = λ i n. (sym (is.marks n)) i in
    record {
      player = is.player;
      place = is.place;
      marked = is.marked;
      lined = is.lined;
      drawn = λ room. is.roads room ∙ ap (λ (test : ℕ → Bool). tested_roads w test room) tests;
      current = λ _. is.marks;
    }

-- a follower whose marks are true
pub drawn-travels : (w : State) (t : Knowledge) → IsDrawn w t
    → ((n : ℕ) → knows_unlocked t n ≡ unlocked w t.player n) → IsTraveller w t
unfolding roads_of
drawn-travels w t is marks =
    let tests : knows_unlocked t ≡ unlocked w t.player = λ i n. (marks n) i in
    record {
      player = is.player;
      place = is.place;
      marked = is.marked;
      marks = marks;
      lined = is.lined;
      roads = λ room. is.drawn room ∙ ap (λ (test : ℕ → Bool). tested_roads w test room) tests;
    }

-- the roads by marks that are true
pub marked-roads : (w : State) (p : ℕ) (marks : List Bool) → Knows w p marks → (room : ℕ)
    → tested_roads w (is_marked marks) room ≡ roads_of w p room
unfolding roads_of
marked-roads w p marks knows room =
    let tests : is_marked marks ≡ unlocked w p = λ i n. (knows n) i in
    ap (λ (test : ℕ → Bool). tested_roads w test room) tests

-- a drawing with true marks, and the rows that belong to them
pub refreshed : (w : State) (t : Knowledge) → IsDrawn w t → (p : ℕ) → p ≡ t.player → (marks : List Bool)
    → length marks ≡ w.next → Knows w p marks → (rows : List (List Step)) → length rows ≡ w.next
    → ((room : ℕ) → get_or rows room [] ≡ roads_of w p room) → (b : Bool)
    → IsTraveller w (knowledge_of p t.place b t.keys marks rows)
refreshed w t is p same marks marked knows rows lined roads b = record {
  player = ap (is_player w) same ∙ is.player;
  place = ap (place_of w) same ∙ is.place;
  marked = marked;
  marks = knows;
  lined = lined;
  roads = roads;
}

-- growing does not look at the keys
pub grown-apart : (now : State) (t : Knowledge) (keys : List Bool × List ℕ) (t' : Knowledge)
    → IsGrown now (record t { keys = keys }) t' → IsGrown now t t'
grown-apart now t keys t' is = record {
  player = is.player;
  place = is.place;
  current = is.current;
  marks = is.marks;
  lined = is.lined;
  rows = is.rows;
}

adjusted_keys : (now : State) (d : Deed) (t : Knowledge) → (adjusted now d t).keys ≡ t.keys
adjusted_keys now (Cost x cost) t = by_passage (passage_of now x)
  where
    by_passage : (v : Option Passage)
        → (option_map_or (λ (a : Passage). record t { rows = map (map (costing x a.cost)) t.rows }) v t).keys ≡ t.keys
    by_passage None = refl
    by_passage (Some a) = refl
adjusted_keys now (Recycle n) t = by_record (record_at now n)
  where
    by_record : (v : Option Record) → (if is_some v then t else forgetting n t).keys ≡ t.keys
    by_record None = refl
    by_record (Some r) = refl
adjusted_keys now d t = refl

-- neither does the rest of following a change
pub keys-kept : (now : State) (d : Deed) (t : Knowledge) (place : Option ℕ)
    → (adjusted now d (moved_to t place)).keys ≡ t.keys
keys-kept now d t None = adjusted_keys now d t
keys-kept now d t (Some p) = adjusted_keys now d (record t { place = p })

-- a traveller with the index of the keys
pub traveller-follows : (w : State) (t : Knowledge) → IsTraveller w t → IsKeyIndex w t.keys → IsFollower w t
traveller-follows w t is keys = record { drawing = traveller-drawn w t is; keys = keys }

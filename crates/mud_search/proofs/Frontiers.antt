-- The invariant of a frontier is preserved.
use Rattle.std.proofs.Common.{◌≡◌, ◌≢◌, ℕ, ◌+◌, ◌*◌, ◌^◌, ◌<◌, ◌≤◌, ◌⊎◌, inl, inr, Bool, true, false, List, [], length}
use Rattle.std.proofs.Common.{map, get_or, set, replicate, None, Some, refl, sym, ◌∙◌, ap, subst, arith}
use Rattle.std.proofs.Common.{get_or-set_same, get_or-set_other, length-set}
use Rattle.std.specs.Bool.{OnTrue, OnFalse}
use Rattle.std.proofs.Math.ListN.{get_or-map}
use Rattle.std.proofs.lemmas.List.Sums.{get_or-le-sum_by, sum_by-set, sum_by-le, count_by-le-length}
use Rattle.std.specs.Prelude.{Contains, sum_by, count_by, All, slice_get, reverse}
use Rattle.std.proofs.lemmas.Bool.{cases_eq, cases_lt}
use Rattle.std.proofs.lemmas.List.{get_or_past, get_or-replicate, length-replicate, length-map}
use Rattle.std.proofs.lemmas.List.Elements.{Contains-get_or, All-get_or, All-from_get_or}
use Rattle.std.proofs.lemmas.Option.{slice_get_within, get_or_from_slice_get, slice_get-get_or, slice_get-map}
use Rattle.std.specs.Option.{option_map}
use Rattle.mud_roads.specs.declared.label.Label.{Label}
use Rattle.mud_roads.specs.declared.label.Step.{Step}
use Rattle.mud_roads.specs.Walks.{AtMost, after}
use Rattle.mud_roads.specs.Labels.{start_label, Reaches}
use Rattle.mud_world.specs.declared.limits.TheConstants.{NUMBERS, MOST_COST, MOST_PARTY}
use Rattle.mud_world.specs.State.{State}
use Rattle.mud_roads.specs.Passable.{Knowledge, knowledge_of, IsTraveller, roads_of}
use Rattle.mud_world.specs.Sound.{IsSound}
use Rattle.mud_search.proofs.Inside.{world-within, place-within}
use Rattle.mud_search.specs.declared.slot.Slot.{Slot}
use Rattle.mud_search.specs.declared.task.Task.{Task}
use Rattle.mud_search.specs.declared.slot.Slot.TheVariants.{Unknown, Waiting, Held, Finished}
use Rattle.mud_search.specs.Memory.{IsKept}
use Rattle.mud_search.specs.inner.Boards.{slot_at, label_at, settle, offers, IsBoardOf, board_of, slot_of, begun_at}
use Rattle.mud_search.specs.inner.Boards.{potential, weight, lists_of, Below}
use Rattle.mud_search.specs.Slots.{label_of, is_waiting, is_held}
use Rattle.mud_search.specs.Frontier.{IsFrontier}
use Rattle.mud_search.specs.Tasks.{IsBegun, IsFirst, IsChanged, IsDone}
use Rattle.mud_search.specs.Least.{AreLeast, AreBounded, label_in}
use Rattle.mud_search.specs.inner.Order.{labels_in}
use Rattle.mud_search.specs.inner.Once.{IsInOrder, is_unfinished}
use Rattle.mud_search.specs.Tables.{table}
use Rattle.mud_search.proofs.Trails.{Falls, trail-walk, total-reverse}
use Rattle.mud_search.proofs.Faithful.{faithful-relabelled, faithful-settled, label-bound, rest-least, IsStill}
use Rattle.mud_search.proofs.Faithful.{still-from_rest, follows-offers, falls-set, some-inj, offers-slot}
use Rattle.mud_search.proofs.Faithful.{labelled-within}
use Rattle.mud_search.proofs.Firsts.{waiting-member}
use Rattle.mud_search.proofs.Potential.{weight-settled_left, potential-set_less}
use Rattle.mud_search.proofs.Once.{order-done, unfinished-settled}

-- the boards with another slot for a member's room
abbrev pub with_slot : List (List Slot) → ℕ → ℕ → Slot → List (List Slot)
with_slot boards member room v = set boards member (set (board_of boards member) room v)

-- the initial boards
abbrev pub begun : ℕ → List Knowledge → List (List Slot)
begun rooms ts = map (begun_at rooms) ts

-- the default past the end of a list of members
abbrev nobody : Knowledge
nobody = knowledge_of 0 0 false ([], []) [] []

member-of : (ts : List Knowledge) (m : ℕ) → m < length ts → (t : Knowledge) × (slice_get ts m ≡ Some t)
member-of ts m h = (get_or ts m nobody, slice_get-get_or ts m nobody h)

-- one member's slots may change to sound ones
pub frontier-set : (w : State) (ts : List Knowledge) (boards : List (List Slot)) → IsKept w ts boards
    → (m : ℕ) (b : List Slot) → m < length boards
    → ((t : Knowledge) → slice_get ts m ≡ Some t → IsBoardOf (roads_of w t.player) t.place w.next b)
    → IsKept w ts (set boards m b)
frontier-set w ts boards f m b h sound = record {
  sound = f.sound;
  count = length-set boards m b ∙ f.count;
  few = f.few;
  faithful = λ n t is.
      elim (cases_eq n m) [
        | inl same ↦
            let P : List Slot → Type 0 = λ x. IsBoardOf (roads_of w t.player) t.place w.next x in
            let e : board_of (set boards m b) n ≡ b =
            ap (λ (k : ℕ). get_or (set boards m b) k []) same ∙ get_or-set_same boards m b [] h in
            subst P (sym e) (sound t (ap (slice_get ts) (sym same) ∙ is))
        | inr other ↦
            let P : List Slot → Type 0 = λ x. IsBoardOf (roads_of w t.player) t.place w.next x in
            subst P (sym (get_or-set_other boards m n b [] other)) (f.faithful n t is)
      ];
}

-- a room may change between waiting, held and finished
pub frontier-relabelled : (w : State) (ts : List Knowledge) (boards : List (List Slot)) → IsKept w ts boards
    → (m room : ℕ) (v : Slot) (l : Label) → m < length boards → label_at (board_of boards m) room ≡ Some l
    → label_of v ≡ Some l → ((k : Label) → v ≢ Finished k)
    → IsKept w ts (with_slot boards m room v)
frontier-relabelled w ts boards f m room v l h was is not_done =
    frontier-set w ts boards f m (set (board_of boards m) room v) h (λ t e.
    let sound = f.faithful m t e in
    let within : room < w.next = omega (arith, sound.whole, labelled-within (board_of boards m) room l was) in
    faithful-relabelled (roads_of w t.player) t.place w.next (board_of boards m) sound room v l within was is
    (λ s d c. absurd (not_done l d)))

-- if a labelled room gets another slot, nothing else changes
pub slot-changed : (boards : List (List Slot)) (m room : ℕ) (v : Slot) (l : Label) (b : List Slot) → m < length boards
    → label_at (board_of boards m) room ≡ Some l → b ≡ set (board_of boards m) room v
    → IsChanged (slot_of boards) (slot_of (set boards m b)) m room v
slot-changed boards m room v l b h was is =
    let within : room < length (board_of boards m) = labelled-within (board_of boards m) room l was in
    let new : board_of (set boards m b) m ≡ set (board_of boards m) room v = get_or-set_same boards m b [] h ∙ is in
    record {
      here = ap (λ x. slot_at x room) new ∙ get_or-set_same (board_of boards m) room v Unknown within;
      others = λ n q apart.
          elim (cases_eq n m) [
            | inl same ↦
                elim apart [
                  | inl other ↦ absurd (other same)
                  | inr other ↦
                      ap (λ (k : ℕ). slot_of (set boards m b) k q) same ∙ ap (λ x. slot_at x q) new
                      ∙ get_or-set_other (board_of boards m) room q v Unknown other
                      ∙ ap (λ (k : ℕ). slot_of boards k q) (sym same)
                ]
            | inr other ↦ ap (λ x. slot_at x q) (get_or-set_other boards m n b [] other)
          ];
    }

-- a blank board
blank-at : (n room : ℕ) → slot_at (replicate n Unknown) room ≡ Unknown
blank-at n room =
    elim (cases_lt room n) [
      | inl inside ↦ get_or-replicate n room Unknown Unknown inside
      | inr past ↦ get_or_past (replicate n Unknown) room Unknown (rw length-replicate past)
    ]

begun-first : (n : ℕ) (t : Knowledge) → t.place < n → slot_at (begun_at n t) t.place ≡ Waiting start_label
begun-first n t h =
    let blank : List Slot = replicate n Unknown in
    let within : t.place < length blank = rw length-replicate h in
    get_or-set_same blank t.place (Waiting start_label) Unknown within

begun-other : (n : ℕ) (t : Knowledge) (room : ℕ) → room ≢ t.place → slot_at (begun_at n t) room ≡ Unknown
begun-other n t room other =
    get_or-set_other (replicate n Unknown) t.place room (Waiting start_label) Unknown other ∙ blank-at n room

-- at first only the place is labelled
pub begun-faithful : (w : State) (t : Knowledge) → t.place < w.next
    → IsBoardOf (roads_of w t.player) t.place w.next (begun_at w.next t)
begun-faithful w t h =
    let slots : List Slot = begun_at w.next t in
    let blank : List Slot = replicate w.next Unknown in
    let first : slot_at slots t.place ≡ Waiting start_label = begun-first w.next t h in
    let unknown : (room : ℕ) → room ≢ t.place → slot_at slots room ≡ Unknown = begun-other w.next t in
    record {
      whole = length-set blank t.place (Waiting start_label) ∙ length-replicate w.next Unknown;
      faithful = record {
        walked = λ room l e.
            elim (cases_eq room t.place) [
              | inl same ↦
                  let label : Some start_label ≡ Some l =
                  sym (ap label_of first) ∙ ap (label_at slots) (sym same) ∙ e in
                  ([], sym same, some-inj start_label l label)
              | inr other ↦
                  let bad : None ≡ Some l = sym (ap label_of (unknown room other)) ∙ e in
                  absurd (cc)
            ];
        start = ap label_of first;
        finished = λ room l s e c.
            elim (cases_eq room t.place) [
              | inl same ↦
                  let bad : Waiting start_label ≡ Finished l = sym first ∙ ap (slot_at slots) (sym same) ∙ e in
                  absurd (cc)
              | inr other ↦
                  let bad : Unknown ≡ Finished l = sym (unknown room other) ∙ e in
                  absurd (cc)
            ];
      };
    }
  where
    some-inj : (a b : Label) → Some a ≡ Some b → a ≡ b
    some-inj a b e = cc

-- a label below another is not above it
not-below : (a k : Label) → Below a k → AtMost k a → ⊥
not-below a k p q = let same : k.cost ≡ a.cost = omega (arith, p.0, q.0) in omega (arith, p.1 (sym same), q.1 same)

-- the premises and the effect of finishing a room
module _ (w : State) (ts : List Knowledge) (boards : List (List Slot)) (f : IsKept w ts boards) (m room : ℕ)
    (h : m < length boards) (steps : List Step)
    (are : (t : Knowledge) → slice_get ts m ≡ Some t → steps ≡ roads_of w t.player room) where
  within-ts : m < length ts
  within-ts = omega (arith, f.count)

  abbrev who : Knowledge
  who = get_or ts m nobody

  is-who : slice_get ts m ≡ Some who
  is-who = slice_get-get_or ts m nobody within-ts

  pub put-bound : (l : Label) → label_at (board_of boards m) room ≡ Some l
      → (l.cost + MOST_COST < 2 ^ 32) × (l.exits + 1 < 2 ^ 32)
  put-bound l e =
      let bound = label-bound (roads_of w who.player) who.place w.next (board_of boards m) (f.faithful m who is-who)
      (world-within w who f.sound) room l e in
      let few : w.next ≤ NUMBERS = f.sound.limit in
      (omega (arith, bound.0, bound.1), omega (arith, bound.0))

  pub put-steps : All (λ s. (s.to < length (board_of boards m)) × (s.cost ≤ MOST_COST)) steps
  put-steps =
      let P : List Step → Type 0 = λ ss. All (λ s. (s.to < length (board_of boards m)) × (s.cost ≤ MOST_COST)) ss in
      let Q : ℕ → Type 0 = λ n. All (λ s. (s.to < n) × (s.cost ≤ MOST_COST)) (roads_of w who.player room) in
      let R : Step → Type 0 = λ s. (s.to < w.next) × (s.cost ≤ MOST_COST) in
      let all : All R (roads_of w who.player room) = λ k d lt. world-within w who f.sound room
      (get_or (roads_of w who.player room) k d) (Contains-get_or (roads_of w who.player room) k d lt) in
      subst P (sym (are who is-who)) (subst Q (sym (f.faithful m who is-who).whole) all)

  pub put-kept : (l : Label) → label_at (board_of boards m) room ≡ Some l
      → IsKept w ts (set boards m (settle room l steps (board_of boards m)))
  put-kept l e =
      frontier-set w ts boards f m (settle room l steps (board_of boards m)) h (λ t is.
      let sound = f.faithful m t is in
      let within : room < w.next = omega (arith, sound.whole, labelled-within (board_of boards m) room l e) in
      faithful-settled (roads_of w t.player) t.place w.next (world-within w t f.sound) room l steps (are t is)
      (board_of boards m) sound e within)

  pub put-lighter : (l : Label) → (slot_of boards m room ≡ Waiting l) ⊎ (slot_of boards m room ≡ Held l)
      → potential (set boards m (settle room l steps (board_of boards m))) < potential boards
  put-lighter l left =
      let sound = f.faithful m who is-who in
      let was : label_at (board_of boards m) room ≡ Some l =
      elim left [ inl e ↦ ap label_of e | inr e ↦ ap label_of e ] in
      let heavy : weight (Finished l) < weight (slot_of boards m room) =
      elim left [ inl e ↦ omega (arith, ap weight e) | inr e ↦ omega (arith, ap weight e) ] in
      let within : room < w.next = omega (arith, sound.whole, labelled-within (board_of boards m) room l was) in
      potential-set_less boards m (settle room l steps (board_of boards m)) h
      (weight-settled_left (roads_of w who.player) who.place w.next (world-within w who f.sound) f.sound.limit room l
      steps (are who is-who) (board_of boards m) sound was heavy within)

  pub put-done : (l : Label) → label_at (board_of boards m) room ≡ Some l
      → IsDone (slot_of boards) (slot_of (set boards m (settle room l steps (board_of boards m))))
      (record { member = m; room = room; label = l }) steps
  put-done l was =
      let sound = f.faithful m who is-who in
      let slots = board_of boards m in
      let inside = world-within w who f.sound in
      let P : Step → List Step → Type 0 = λ s ss. Contains ss s in
      let those : (s : Step) → Contains steps s → Contains (roads_of w who.player room) s =
      λ s c. subst (P s) (are who is-who) c in
      let all = follows-offers (roads_of w who.player) who.place w.next inside room l steps those slots sound was in
      let within : room < length (offers l steps slots) =
      omega (arith, sound.whole, all.0.sound.whole, labelled-within slots room l was) in
      let here : board_of (set boards m (settle room l steps slots)) m ≡ settle room l steps slots =
      get_or-set_same boards m (settle room l steps slots) [] h in
      let down : Falls (label_at (offers l steps slots)) (label_at (settle room l steps slots)) =
      falls-set (offers l steps slots) room (Finished l) l within refl (λ a r.
      let Q : Label → Type 0 = λ j. AtMost j a in
      subst Q (some-inj r.0 l (sym r.1 ∙ all.0.still)) r.2) in
      let at : (r : ℕ) → slot_at (board_of (set boards m (settle room l steps slots)) m) r ≡ slot_at
      (settle room l steps slots) r = λ r. ap (λ b. slot_at b r) here in
      let R : ℕ → Label → List Slot → Type 0 = λ r a b. Reaches (label_at b) r a in
      record {
        was = was;
        finished = at room ∙ get_or-set_same (offers l steps slots) room (Finished l) Unknown within;
        others = λ n r other. ap (λ b. slot_at b r) (get_or-set_other boards m n (settle room l steps slots) [] other);
        fell = λ r other.
            let e : slot_at (settle room l steps slots) r ≡ slot_at (offers l steps slots) r =
            get_or-set_other (offers l steps slots) room r (Finished l) Unknown other in
            elim (offers-slot l steps slots (λ s c. omega (arith, sound.whole, (inside room s (those s c)).0)) r) [
              | inl same ↦ inl (at r ∙ e ∙ same)
              | inr f ↦ inr (
                f.step,
                f.among,
                f.leads,
                at r ∙ e
                    ∙ f.now,
                λ k. not-below (after 1 l f.step) k.0 (f.less k.0 k.1) k.2,
              )
            ];
        reached = λ s c. subst (R s.to (after 1 l s)) (sym here) (down s.to (after 1 l s) (all.1 s c));
      }

  -- finishing the first waiting room keeps the rooms in order, and leaves one room less unfinished
  pub put-once : (l : Label) → IsInOrder (slot_of boards)
      → IsFirst (slot_of boards) (record { member = m; room = room; label = l })
      → IsInOrder (slot_of (set boards m (settle room l steps (board_of boards m))))
      × (sum_by (count_by is_unfinished) (set boards m (settle room l steps (board_of boards m))) + 1
      ≡ sum_by (count_by is_unfinished) boards)
  put-once l order first =
      let slots = board_of boards m in
      let t : Task = record { member = m; room = room; label = l } in
      let waits : slot_at slots room ≡ Waiting l = first.is_waiting in
      let done = put-done l (ap label_of waits) in
      let less = unfinished-settled (roads_of w who.player) who.place w.next (world-within w who f.sound) room l steps
      (are who is-who) slots (f.faithful m who is-who) waits
      (λ q k e. order.sorted m q room k l e waits) in (
        order-done (slot_of boards) (slot_of (set boards m (settle room l steps slots))) t steps order first done,
        omega (arith, sum_by-set (count_by is_unfinished) boards m (settle room l steps slots) [] h, less),
      )

-- there are no more unfinished rooms than rooms
pub frontier-unfinished : (w : State) (ts : List Knowledge) (boards : List (List Slot)) → IsKept w ts boards
    → sum_by (count_by is_unfinished) boards ≤ length ts * w.next
frontier-unfinished w ts boards f =
    let P : List Slot → Type 0 = λ b. count_by is_unfinished b ≤ w.next in
    let Q : ℕ → Type 0 = λ n. sum_by (count_by is_unfinished) boards ≤ n * w.next in
    let all : All P boards = All-from_get_or P boards [] (λ i h.
    let t = member-of ts i (omega (arith, f.count)) in
    let whole : length (board_of boards i) ≡ w.next = (f.faithful i t.0 t.1).whole in
    omega (arith, count_by-le-length is_unfinished (board_of boards i), whole)) in
    subst Q f.count (sum_by-le (count_by is_unfinished) w.next boards all)

-- the initial frontier satisfies the invariant
pub frontier-begun : (w : State) (ts : List Knowledge) → IsSound w → All (IsTraveller w) ts → length ts ≤ MOST_PARTY
    → IsKept w ts (begun w.next ts)
frontier-begun w ts g these few = record {
  sound = g;
  count = length-map ts (begun_at w.next);
  few = few;
  faithful = λ m t is.
      let P : List Slot → Type 0 = λ b. IsBoardOf (roads_of w t.player) t.place w.next b in
      let got : slice_get (map (begun_at w.next) ts) m ≡ Some (begun_at w.next t) =
      slice_get-map (begun_at w.next) ts m ∙ ap (option_map (begun_at w.next)) is in
      let place : t.place < w.next = at-place t m is in
      subst P (sym (get_or_from_slice_get (map (begun_at w.next) ts) m (begun_at w.next t) [] got))
      (begun-faithful w t place);
}
  where
    at-place : (t : Knowledge) (m : ℕ) → slice_get ts m ≡ Some t → t.place < w.next
    at-place t m is =
        let P : Knowledge → Type 0 = λ x. IsTraveller w x in
        place-within w t g
        (subst P (get_or_from_slice_get ts m t t is) (All-get_or P ts m t (slice_get_within ts m t is) these))

-- a held room may wait again, and nothing else changes
pub frontier-released : (w : State) (ts : List Knowledge) (boards : List (List Slot)) → IsKept w ts boards
    → (m room : ℕ) (l : Label) (b : List Slot) → m < length boards → (done : Bool)
    → OnTrue done ((slot_of boards m room ≡ Held l) × (b ≡ set (board_of boards m) room (Waiting l)))
    → OnFalse done ((slot_of boards m room ≢ Held l) × (b ≡ board_of boards m))
    → IsKept w ts (set boards m b)
frontier-released w ts boards f m room l b h true t u =
    let P : List Slot → Type 0 = λ x. IsKept w ts (set boards m x) in
    subst P (sym t.1) (frontier-relabelled w ts boards f m room (Waiting l) l h (ap label_of t.0) refl (λ k e. cc))
frontier-released w ts boards f m room l b h false t u =
    let P : List Slot → Type 0 = λ x. IsKept w ts (set boards m x) in
    subst P (sym u.1) (frontier-set w ts boards f m (board_of boards m) h (λ t e. f.faithful m t e))

-- the labels of slots are the slots' labels
pub label-of_boards : (boards : List (List Slot)) (m room : ℕ)
    → label_in (table (lists_of boards)) m room ≡ label_at (board_of boards m) room
label-of_boards boards m room = ap (λ b. get_or b room None) (get_or-map (map label_of) boards m [])
    ∙ get_or-map label_of (board_of boards m) room Unknown

-- if no room waits or is held, the labels are the least
pub frontier-still : (w : State) (ts : List Knowledge) (boards : List (List Slot)) → IsKept w ts boards
    → ((m room : ℕ) (l : Label) → slot_of boards m room ≡ Waiting l → ⊥)
    → ((m room : ℕ) (l : Label) → slot_of boards m room ≡ Held l → ⊥)
    → AreLeast w ts (labels_in (table boards))
frontier-still w ts boards f none_waiting none_held m room t is =
    rest-least (roads_of w t.player) t.place w.next (board_of boards m) (f.faithful m t is)
    (record { none_waiting = none_waiting m; none_held = none_held m }) room

-- no label is too great
pub frontier-bounded : (w : State) (ts : List Knowledge) (boards : List (List Slot)) → IsKept w ts boards
    → AreBounded (labels_in (table boards))
frontier-bounded w ts boards f m room l was =
    let h : m < length ts = omega (arith, f.count, labelled-member boards m room l was) in
    let t = member-of ts m h in
    let bound = label-bound (roads_of w t.0.player) t.0.place w.next (board_of boards m) (f.faithful m t.0 t.1)
    (world-within w t.0 f.sound) room l was in
    let few : w.next ≤ NUMBERS = f.sound.limit in
    (omega (arith, bound.0, bound.1), omega (arith, bound.0))
  where
    labelled-member : (boards : List (List Slot)) (m r : ℕ) (l : Label)
        → label_at (board_of boards m) r ≡ Some l → m < length boards
    labelled-member boards m r l e =
        elim (cases_lt m (length boards)) [
          | inl h ↦ h
          | inr past ↦
              let bad : None ≡ Some l = sym (ap (λ (b : List Slot). label_at b r) (get_or_past boards m [] past)) ∙ e in
              absurd (cc)
        ]

-- likewise if the counts are 0
pub frontier-rest : (w : State) (ts : List Knowledge) (boards : List (List Slot)) → IsKept w ts boards
    → sum_by (count_by is_waiting) boards ≡ 0 → sum_by (count_by is_held) boards ≡ 0
    → AreLeast w ts (labels_in (table boards))
frontier-rest w ts boards f waiting held =
    frontier-still w ts boards f
    (λ m room l e. (none m (waiting-member boards m room l e)).none_waiting room l e)
    (λ m room l e. (none m (held-member boards m room l e)).none_held room l e)
  where
    none : (m : ℕ) → m < length boards → IsStill (board_of boards m)
    none m h = still-from_rest (board_of boards m) (record {
      waiting = omega (arith, get_or-le-sum_by (count_by is_waiting) boards m [] h);
      held = omega (arith, get_or-le-sum_by (count_by is_held) boards m [] h);
    })

    held-member : (boards : List (List Slot)) (m r : ℕ) (l : Label) → slot_of boards m r ≡ Held l → m < length boards
    held-member boards m r l e =
        elim (cases_lt m (length boards)) [
          | inl h ↦ h
          | inr past ↦
              let bad : Unknown ≡ Held l =
              sym (ap (λ (b : List Slot). slot_at b r) (get_or_past boards m [] past)) ∙ e in
              absurd (cc)
        ]

-- at first only the places are known
pub begun-is : (w : State) (ts : List Knowledge) → IsSound w → All (IsTraveller w) ts
    → IsBegun ts (slot_of (begun w.next ts))
begun-is w ts g these = record {
  place = λ m t is. ap (λ b. slot_at b t.place) (board m t is) ∙ begun-first w.next t (inside m t is);
  others = λ m room apart.
      elim (cases_lt m (length ts)) [
        | inl h ↦
            let t = member-of ts m h in
            ap (λ b. slot_at b room) (board m t.0 t.1) ∙ begun-other w.next t.0 room (apart t.0 t.1)
        | inr past ↦
            let long = length-map ts (begun_at w.next) in
            ap (λ b. slot_at b room) (get_or_past (begun w.next ts) m [] (omega (arith, long, past)))
      ];
}
  where
    board : (m : ℕ) (t : Knowledge) → slice_get ts m ≡ Some t → board_of (begun w.next ts) m ≡ begun_at w.next t
    board m t is = get_or_from_slice_get (begun w.next ts) m (begun_at w.next t) []
        (slice_get-map (begun_at w.next) ts m ∙ ap (option_map (begun_at w.next)) is)

    inside : (m : ℕ) (t : Knowledge) → slice_get ts m ≡ Some t → t.place < w.next
    inside m t is =
        let P : Knowledge → Type 0 = λ x. IsTraveller w x in
        place-within w t g
        (subst P (get_or_from_slice_get ts m t t is) (All-get_or P ts m t (slice_get_within ts m t is) these))

-- the invariant as the facts state it
pub frontier-facts : (w : State) (ts : List Knowledge) (boards : List (List Slot)) → IsKept w ts boards
    → IsFrontier w ts (slot_of boards)
frontier-facts w ts boards f = record {
  sound = f.sound;
  few = f.few;
  inside = λ m room known.
      elim (cases_lt m (length ts)) [
        | inl h ↦
            let t = member-of ts m h in
            elim (cases_lt room w.next) [
              | inl within ↦ (h, within)
              | inr past ↦
                  let whole = (f.faithful m t.0 t.1).whole in
                  absurd (known (get_or_past (board_of boards m) room Unknown (omega (arith, whole, past))))
            ]
        | inr past ↦
            let count = f.count in
            absurd (known (ap (λ b. slot_at b room) (get_or_past boards m [] (omega (arith, count, past)))))
      ];
  faithful = λ m t is.
      let traced = (f.faithful m t is).faithful in
      record {
        walked = λ room l e.
            let at = traced.walked room l e in
            let labels = label_at (board_of boards m) in
            (reverse at.0, trail-walk (roads_of w t.player) labels t.place at.0 room at.1, total-reverse at.0 ∙ at.2);
        start = traced.start;
        finished = traced.finished;
      };
}

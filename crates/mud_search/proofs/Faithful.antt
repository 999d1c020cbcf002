-- The invariant is preserved, and at rest the labels are least.
use Rattle.std.proofs.Common.{◌≡◌, ◌≢◌, cond, ℕ, zero, suc, ◌*◌, ◌<◌, ◌≤◌, ◌⊎◌, inl, inr, Bool, true, false, List, []}
use Rattle.std.proofs.Common.{◌∷◌, length, set, Option, None, Some, refl, sym, ◌∙◌, ap, subst, arith, get_or-set_same}
use Rattle.std.proofs.Common.{get_or-set_other, length-set}
use Rattle.std.specs.Prelude.{Contains, count_by, reverse}
use Rattle.std.proofs.lemmas.List.Sums.{sum_by-cons, get_or-le-sum_by}
use Rattle.std.proofs.lemmas.List.{get_or_past}
use Rattle.std.proofs.lemmas.Bool.{cases_eq, cases_lt}
use Rattle.std.proofs.lemmas.Bool.Decides.{nat_tests}
use Rattle.mud_world.specs.declared.limits.TheConstants.{MOST_COST}
use Rattle.mud_roads.specs.declared.label.Label.{Label}
use Rattle.mud_roads.specs.declared.label.Step.{Step}
use Rattle.mud_roads.specs.Walks.{Roads, AtMost, after, total, IsLeast, Least}
use Rattle.mud_roads.specs.Labels.{start_label, Reaches, AreValid}
use Rattle.mud_roads.proofs.Bounds.{valid_is_least}
use Rattle.mud_roads.proofs.Routes.{label-ext}
use Rattle.mud_search.specs.declared.slot.Slot.{Slot}
use Rattle.mud_search.specs.declared.slot.Slot.TheVariants.{Unknown, Waiting, Held, Finished}
use Rattle.mud_search.specs.inner.Boards.{slot_at, label_at, is_below, falls, offer, offers, settle, Below, IsBoardOf}
use Rattle.mud_search.specs.inner.Trails.{rooms_of_walk, is_in, IsWalked}
use Rattle.mud_search.specs.Slots.{label_of, is_waiting, is_held}
use Rattle.mud_search.proofs.Inside.{AreWithin}
use Rattle.mud_search.proofs.Trails.{Falls, trail-falls, trail-reaches, trail-walk, trail-short, trail-cost}
use Rattle.mud_search.proofs.Trails.{total-reverse, exits-length}

pub label-set_same : (slots : List Slot) (d : ℕ) (v : Slot) → d < length slots → label_at (set slots d v) d ≡ label_of v
label-set_same slots d v h = ap label_of (get_or-set_same slots d v Unknown h)

pub label-set_other : (slots : List Slot) (d : ℕ) (v : Slot) (room : ℕ) → room ≢ d
    → label_at (set slots d v) room ≡ label_at slots room
label-set_other slots d v room h = ap label_of (get_or-set_other slots d room v Unknown h)

pub falls-set : (slots : List Slot) (d : ℕ) (v : Slot) (k : Label) → d < length slots → label_of v ≡ Some k
    → ((l : Label) → Reaches (label_at slots) d l → AtMost k l) → Falls (label_at slots) (label_at (set slots d v))
falls-set slots d v k within is low room l (j, e, p) =
    elim (cases_eq room d) [
      | inl same ↦
          let P : ℕ → Type 0 = λ r. Reaches (label_at (set slots d v)) r l in
          subst P (sym same) (k, label-set_same slots d v within ∙ is, low l (j, ap (label_at slots) (sym same) ∙ e, p))
      | inr other ↦ (j, label-set_other slots d v room other ∙ e, p)
    ]

start-least : (k : Label) → AtMost k start_label → k ≡ start_label
start-least k p =
    let cost : k.cost ≡ 0 = omega arith in
    let exits : k.exits ≡ 0 = omega arith in
    label-ext k start_label cost exits

pub some-inj : {A : Type 0} (a b : A) → Some a ≡ Some b → a ≡ b
some-inj a b e = cc

-- a slot may be set to a walk's label that is not greater than the one before
pub faithful-set : (roads : Roads) (from rooms : ℕ) (slots : List Slot) → IsBoardOf roads from rooms slots
    → (d : ℕ) (v : Slot) (k : Label) → d < rooms → label_of v ≡ Some k
    → ((l : Label) → Reaches (label_at slots) d l → AtMost k l)
    → IsWalked roads (label_at (set slots d v)) from d k
    → ((s : Step) → v ≡ Finished k → Contains (roads d) s → Reaches (label_at (set slots d v)) s.to (after 1 k s))
    → IsBoardOf roads from rooms (set slots d v)
faithful-set roads from rooms slots sound d v k h is low walked done =
    let within : d < length slots = omega (arith, sound.whole) in
    let now = label_at (set slots d v) in
    let down : Falls (label_at slots) now = falls-set slots d v k within is low in
    record {
      whole = length-set slots d v ∙ sound.whole;
      faithful = record {
        walked = λ room l e.
            elim (cases_eq room d) [
              | inl same ↦
                  let kl : k ≡ l =
                  some-inj k l (sym is ∙ sym (label-set_same slots d v within) ∙ ap now (sym same) ∙ e) in
                  let P : Label → Type 0 = λ j. IsWalked roads now from room j in
                  let Q : ℕ → Type 0 = λ r. IsWalked roads now from r k in
                  subst P kl (subst Q (sym same) walked)
              | inr other ↦
                  let old : IsWalked roads (label_at slots) from room l =
                  sound.faithful.walked room l (sym (label-set_other slots d v room other) ∙ e) in
                  (old.0, trail-falls roads (label_at slots) now from down old.0 room old.1, old.2)
            ];
        start =
            elim (cases_eq from d) [
              | inl same ↦
                  let zero_label : k ≡ start_label = start-least k
                  (low start_label (
                    start_label,
                    ap (label_at slots) (sym same) ∙ sound.faithful.start,
                    (omega arith, λ x. omega arith),
                  )) in
                  ap now same ∙ label-set_same slots d v within ∙ is ∙ ap Some zero_label
              | inr other ↦ label-set_other slots d v from other ∙ sound.faithful.start
            ];
        finished = λ room l s e c.
            elim (cases_eq room d) [
              | inl same ↦
                  let at : v ≡ Finished l =
                  sym (get_or-set_same slots d v Unknown within) ∙ ap (slot_at (set slots d v)) (sym same) ∙ e in
                  let kl : k ≡ l = some-inj k l (sym is ∙ ap label_of at) in
                  let P : Label → Type 0 = λ j. Reaches now s.to (after 1 j s) in
                  let Q : ℕ → Type 0 = λ r. Contains (roads r) s in
                  subst P kl (done s (at ∙ ap Finished (sym kl)) (subst Q same c))
              | inr other ↦ down s.to (after 1 l s)
                  (sound.faithful.finished room l s (sym (get_or-set_other slots d room v Unknown other) ∙ e) c)
            ];
      };
    }

-- a slot may change between waiting, held and finished
pub faithful-relabelled : (roads : Roads) (from rooms : ℕ) (slots : List Slot) → IsBoardOf roads from rooms slots
    → (d : ℕ) (v : Slot) (k : Label) → d < rooms → label_at slots d ≡ Some k → label_of v ≡ Some k
    → ((s : Step) → v ≡ Finished k → Contains (roads d) s → Reaches (label_at slots) s.to (after 1 k s))
    → IsBoardOf roads from rooms (set slots d v)
faithful-relabelled roads from rooms slots sound d v k h was is done =
    let within : d < length slots = omega (arith, sound.whole) in
    let low : (l : Label) → Reaches (label_at slots) d l → AtMost k l = λ l r.
    let P : Label → Type 0 = λ j. AtMost j l in
    subst P (some-inj r.0 k (sym r.1 ∙ was)) r.2 in
    let down : Falls (label_at slots) (label_at (set slots d v)) = falls-set slots d v k within is low in
    let old : IsWalked roads (label_at slots) from d k = sound.faithful.walked d k was in
    faithful-set roads from rooms slots sound d v k h is low
    (old.0, trail-falls roads (label_at slots) (label_at (set slots d v)) from down old.0 d old.1, old.2)
    (λ s e c. down s.to (after 1 k s) (done s e c))

pub below-from_test : (a b : Label) → is_below a b ≡ true → Below a b
below-from_test a b h = (grind (arith, nat_tests), λ e. grind (arith, nat_tests))

pub at_most-from_test : (a b : Label) → is_below a b ≡ false → AtMost b a
at_most-from_test a b h = (grind (arith, nat_tests), λ e. grind (arith, nat_tests))

total-cons : (s : Step) (ss : List Step) → total 1 (s ∷ ss) ≡ after 1 (total 1 ss) s
total-cons s ss =
    label-ext (total 1 (s ∷ ss)) (after 1 (total 1 ss) s) (omega (arith, sum_by-cons (λ (x : Step). x.cost) s ss))
    (omega (arith, sum_by-cons (λ (x : Step). 1) s ss))

pub bool-cases : (b : Bool) → (b ≡ true) ⊎ (b ≡ false)
bool-cases true = inl refl
bool-cases false = inr refl

-- a step may lower the label of the room where it leads
pub faithful-lowered : (roads : Roads) (from rooms : ℕ) (slots : List Slot) → IsBoardOf roads from rooms slots
    → AreWithin roads rooms
    → (by : ℕ) (l : Label) (s : Step) → label_at slots by ≡ Some l → Contains (roads by) s
    → ((k : Label) → label_at slots s.to ≡ Some k → Below (after 1 l s) k)
    → IsBoardOf roads from rooms (set slots s.to (Waiting (after 1 l s)))
faithful-lowered roads from rooms slots sound inside by l s was c less =
    let h : s.to < rooms = (inside by s c).0 in
    let within : s.to < length slots = omega (arith, sound.whole) in
    let v = Waiting (after 1 l s) in
    let low : (a : Label) → Reaches (label_at slots) s.to a → AtMost (after 1 l s) a = λ a r.
    let b : Below (after 1 l s) r.0 = less r.0 r.1 in
    let p : AtMost r.0 a = r.2 in
    (omega arith, λ e. omega arith) in
    let now = label_at (set slots s.to (Waiting (after 1 l s))) in
    let down : Falls (label_at slots) now = falls-set slots s.to v (after 1 l s) within refl low in
    let old : IsWalked roads (label_at slots) from by l = sound.faithful.walked by l was in
    let sum : total 1 (s ∷ old.0) ≡ after 1 l s = total-cons s old.0 ∙ ap (λ (k : Label). after 1 k s) old.2 in
    let fresh : is_in s.to (rooms_of_walk from old.0) ≡ false =
    elim (bool-cases (is_in s.to (rooms_of_walk from old.0))) [
      | inl seen ↦
          let r : Reaches (label_at slots) s.to (total 1 old.0) =
          trail-reaches roads (label_at slots) from sound.faithful.start old.0 by old.1 s.to seen in
          let b : Below (after 1 l s) r.0 = less r.0 r.1 in
          let p : AtMost r.0 (total 1 old.0) = r.2 in
          let cost : (total 1 old.0).cost ≡ l.cost = ap (λ (k : Label). k.cost) old.2 in
          let exits : (total 1 old.0).exits ≡ l.exits = ap (λ (k : Label). k.exits) old.2 in
          absurd (clash l s r.0 (total 1 old.0) b p cost exits)
      | inr unseen ↦ unseen
    ] in
    let reach : Reaches now s.to (total 1 (s ∷ old.0)) =
    let P : Label → Type 0 = λ k. Reaches now s.to k in
    subst P (sym sum) (after 1 l s, label-set_same slots s.to v within, (omega arith, λ e. omega arith)) in
    faithful-set roads from rooms slots sound s.to v (after 1 l s) h refl low
    (s ∷ old.0, (refl, fresh, reach, (by, c, trail-falls roads (label_at slots) now from down old.0 by old.1)), sum)
    (λ t e d. absurd (cc))
  where
    clash : (l : Label) (s : Step) (k t : Label) → Below (after 1 l s) k → AtMost k t
        → t.cost ≡ l.cost → t.exits ≡ l.exits → ⊥
    clash l s k t b p e f = omega arith

-- the facts that relaxing the steps of a room preserves
pub record Follows (roads : Roads) (from rooms by : ℕ) (l : Label) (before then : List Slot) : Type 0 where
  pub sound : IsBoardOf roads from rooms then
  pub still : label_at then by ≡ Some l
  pub kept : slot_at then by ≡ slot_at before by
  pub down : Falls (label_at before) (label_at then)

-- the label after a step to the room itself is not less
self-loop : (l k : Label) (s : Step) → k ≡ l → Below (after 1 l s) k → ⊥
self-loop l k s e b =
    let P : Label → Type 0 = λ j. Below (after 1 l s) j in
    let c : Below (after 1 l s) l = subst P e b in
    omega (arith, c.1 (omega arith))

pub follows-offered : (roads : Roads) (from rooms : ℕ) (slots : List Slot)
    → IsBoardOf roads from rooms slots → AreWithin roads rooms
    → (by : ℕ) (l : Label) (s : Step) → label_at slots by ≡ Some l → Contains (roads by) s
    → Follows roads from rooms by l slots (offer l s slots)
    × Reaches (label_at (offer l s slots)) s.to (after 1 l s)
follows-offered roads from rooms slots sound inside by l s was c =
    go (label_at slots s.to) refl (falls (after 1 l s) (label_at slots s.to)) refl
  where
    go : (o : Option Label) → label_at slots s.to ≡ o → (b : Bool) → falls (after 1 l s) (label_at slots s.to) ≡ b
        → Follows roads from rooms by l slots (offer l s slots)
        × Reaches (label_at (offer l s slots)) s.to (after 1 l s)
    go o at true lower =
        let h : s.to < rooms = (inside by s c).0 in
        let within : s.to < length slots = omega (arith, sound.whole) in
        let v = Waiting (after 1 l s) in
        let less : (k : Label) → label_at slots s.to ≡ Some k → Below (after 1 l s) k = λ k e.
        below-from_test (after 1 l s) k (sym (ap (falls (after 1 l s)) e) ∙ lower) in
        let low : (a : Label) → Reaches (label_at slots) s.to a → AtMost (after 1 l s) a = λ a r.
        let b : Below (after 1 l s) r.0 = less r.0 r.1 in
        let p : AtMost r.0 a = r.2 in
        (omega arith, λ e. omega arith) in
        let apart : by ≢ s.to = λ e. self-loop l l s refl (less l (ap (label_at slots) (sym e) ∙ was)) in
        rw lower (
          record {
            sound = faithful-lowered roads from rooms slots sound inside by l s was c less;
            still = label-set_other slots s.to v by apart ∙ was;
            kept = get_or-set_other slots s.to by v Unknown apart;
            down = falls-set slots s.to v (after 1 l s) within refl low;
          },
          (after 1 l s, label-set_same slots s.to v within, (omega arith, λ e. omega arith)),
        )
    go (Some k) at false higher =
        rw higher (
          record { sound = sound; still = was; kept = refl; down = λ room a r. r },
          (k, at, at_most-from_test (after 1 l s) k (sym (ap (falls (after 1 l s)) at) ∙ higher)),
        )
    go None at false higher =
        let bad : true ≡ false = sym (ap (falls (after 1 l s)) at) ∙ higher in
        absurd (cc)

-- an element of a list is one of a longer list
pub there : {A : Type 0} (x : A) (xs : List A) (y : A) → Contains xs y → Contains (x ∷ xs) y
there x xs y (k, h, e) = (suc k, omega arith, e)

pub here : {A : Type 0} (x : A) (xs : List A) → Contains (x ∷ xs) x
here x xs = (zero, omega arith, refl)

first-or : {A : Type 0} (x : A) (xs : List A) (y : A) → Contains (x ∷ xs) y → (x ≡ y) ⊎ Contains xs y
first-or x xs y (zero, h, e) = inl e
first-or x xs y (suc k, h, e) = inr (k, omega arith, e)

-- relaxing all steps out of a room leaves no step to a greater label
pub follows-offers : (roads : Roads) (from rooms : ℕ) → AreWithin roads rooms → (by : ℕ) (l : Label)
    → (ss : List Step) → ((s : Step) → Contains ss s → Contains (roads by) s)
    → (slots : List Slot) → IsBoardOf roads from rooms slots → label_at slots by ≡ Some l
    → Follows roads from rooms by l slots (offers l ss slots)
    × ((s : Step) → Contains ss s → Reaches (label_at (offers l ss slots)) s.to (after 1 l s))
follows-offers roads from rooms inside by l [] those slots sound was =
    (record { sound = sound; still = was; kept = refl; down = λ room a r. r }, λ s (k, h, e). absurd (omega arith))
follows-offers roads from rooms inside by l (s ∷ ss) those slots sound was =
    let one = follows-offered roads from rooms slots sound inside by l s was (those s (here s ss)) in
    let rest = follows-offers roads from rooms inside by l ss (λ t c. those t (there s ss t c))
    (offer l s slots) one.0.sound one.0.still in (
      record {
        sound = rest.0.sound;
        still = rest.0.still;
        kept = rest.0.kept ∙ one.0.kept;
        down = λ room a r. rest.0.down room a (one.0.down room a r);
      },
      λ t c.
          elim (first-or s ss t c) [
            | inl same ↦
                let P : Step → Type 0 = λ x. Reaches (label_at (offers l ss (offer l s slots))) x.to (after 1 l x) in
                subst P same (rest.0.down s.to (after 1 l s) one.1)
            | inr later ↦ rest.1 t later
          ],
    )

-- a room whose steps are relaxed may be finished
pub faithful-settled : (roads : Roads) (from rooms : ℕ) → AreWithin roads rooms → (room : ℕ) (l : Label)
    → (steps : List Step) → steps ≡ roads room
    → (slots : List Slot) → IsBoardOf roads from rooms slots → label_at slots room ≡ Some l → room < rooms
    → IsBoardOf roads from rooms (settle room l steps slots)
faithful-settled roads from rooms inside room l steps are slots sound was h =
    let P : Step → List Step → Type 0 = λ s ss. Contains ss s in
    let all = follows-offers roads from rooms inside room l steps (λ s c. subst (P s) are c) slots sound was in
    faithful-relabelled roads from rooms (offers l steps slots) all.0.sound room (Finished l) l h all.0.still refl
    (λ s e c. all.1 s (subst (P s) (sym are) c))

-- a labelled room is one of the rooms
pub labelled-within : (slots : List Slot) (room : ℕ) (l : Label) → label_at slots room ≡ Some l → room < length slots
labelled-within slots room l e =
    elim (cases_lt room (length slots)) [
      | inl h ↦ h
      | inr h ↦
          let none : label_at slots room ≡ None = ap label_of (get_or_past slots room Unknown h) in
          let bad : Some l ≡ None = sym e ∙ none in
          absurd (cc)
    ]

-- no label is greater than that of the longest walk without repeated rooms
pub label-bound : (roads : Roads) (from rooms : ℕ) (slots : List Slot)
    → IsBoardOf roads from rooms slots → AreWithin roads rooms
    → (room : ℕ) (l : Label) → label_at slots room ≡ Some l → (l.exits < rooms) × (l.cost ≤ MOST_COST * l.exits)
label-bound roads from rooms slots sound inside room l e =
    let at = sound.faithful.walked room l e in
    let start : from < rooms =
    omega (arith, labelled-within slots from start_label sound.faithful.start, sound.whole) in
    let cost : (total 1 at.0).cost ≡ l.cost = ap (λ (k : Label). k.cost) at.2 in
    let exits : length at.0 ≡ l.exits = sym (exits-length at.0) ∙ ap (λ (k : Label). k.exits) at.2 in
    let short : length at.0 < rooms = trail-short roads (label_at slots) from rooms inside start at.0 room at.1 in
    let dear : (total 1 at.0).cost ≤ MOST_COST * length at.0 =
    trail-cost roads (label_at slots) from rooms inside at.0 room at.1 in
    (omega arith, omega arith)

-- no room waits, and none is held
pub record AtRest (slots : List Slot) : Type 0 where
  pub waiting : count_by is_waiting slots ≡ 0
  pub held : count_by is_held slots ≡ 0

one-counted : (p : Slot → Bool) (slots : List Slot) (room : ℕ) → p Unknown ≡ false
    → p (slot_at slots room) ≡ true → 0 < count_by p slots
one-counted p slots room u h =
    elim (cases_lt room (length slots)) [
      | inl within ↦
          let f : Slot → ℕ = λ x. cond (p x) 1 0 in
          let one : f (slot_at slots room) ≡ 1 = ap (λ b. cond b 1 0) h in
          omega (arith, get_or-le-sum_by f slots room Unknown within, one)
      | inr past ↦
          let bad : true ≡ false = sym h ∙ ap p (get_or_past slots room Unknown past) ∙ u in
          absurd (cc)
    ]

-- no room waits, and none is held
pub record IsStill (slots : List Slot) : Type 0 where
  pub none_waiting : (room : ℕ) (l : Label) → slot_at slots room ≡ Waiting l → ⊥
  pub none_held : (room : ℕ) (l : Label) → slot_at slots room ≡ Held l → ⊥

pub still-from_rest : (slots : List Slot) → AtRest slots → IsStill slots
still-from_rest slots rest = record {
  none_waiting = λ room l e. omega (arith, rest.waiting, one-counted is_waiting slots room refl (ap is_waiting e));
  none_held = λ room l e. omega (arith, rest.held, one-counted is_held slots room refl (ap is_held e));
}

-- at rest a labelled room is finished
rest-finished : (slots : List Slot) → IsStill slots → (room : ℕ) (l : Label) → label_at slots room ≡ Some l
    → slot_at slots room ≡ Finished l
rest-finished slots rest room l e = go (slot_at slots room) refl
  where
    go : (v : Slot) → slot_at slots room ≡ v → slot_at slots room ≡ Finished l
    go Unknown at = let bad : Some l ≡ None = sym e ∙ ap label_of at in absurd (cc)
    go (Waiting k) at = absurd (rest.none_waiting room k at)
    go (Held k) at = absurd (rest.none_held room k at)
    go (Finished k) at = at ∙ ap Finished (some-inj k l (sym (ap label_of at) ∙ e))

-- at rest the labels are the least
pub rest-least : (roads : Roads) (from rooms : ℕ) (slots : List Slot) → IsBoardOf roads from rooms slots → IsStill slots
    → (room : ℕ) → Least 1 roads from room (label_at slots room)
rest-least roads from rooms slots sound rest room = go (label_at slots room) refl
  where
    valid : AreValid 1 roads from (label_at slots)
    valid = record {
      start = sound.faithful.start;
      steps = λ r l s e c. sound.faithful.finished r l s (rest-finished slots rest r l e) c;
    }

    go : (o : Option Label) → label_at slots room ≡ o → Least 1 roads from room o
    go None at = (valid_is_least 1 roads from (label_at slots) valid).1 room at
    go (Some l) at =
        let walked = sound.faithful.walked room l at in
        let sum : total 1 (reverse walked.0) ≡ l = total-reverse walked.0 ∙ walked.2 in
        let P : Label → Type 0 = λ k. IsLeast 1 roads from room k in
        subst P sum ((valid_is_least 1 roads from (label_at slots) valid).0 room (reverse walked.0)
        (trail-walk roads (label_at slots) from walked.0 room walked.1) (at ∙ ap Some (sym sum)))

below-trans : (a j k : Label) → Below a j → AtMost j k → Below a k
below-trans a j k p q = (omega arith, λ e. omega arith)

falls-offered : (l : Label) (s : Step) (slots : List Slot) → s.to < length slots
    → Falls (label_at slots) (label_at (offer l s slots))
falls-offered l s slots within = go (falls (after 1 l s) (label_at slots s.to)) refl
  where
    go : (b : Bool) → falls (after 1 l s) (label_at slots s.to) ≡ b
        → Falls (label_at slots) (label_at (offer l s slots))
    go true lower = rw lower (falls-set slots s.to (Waiting (after 1 l s)) (after 1 l s) within refl (λ a r.
        let b : Below (after 1 l s) r.0 =
        below-from_test (after 1 l s) r.0 (sym (ap (falls (after 1 l s)) r.1) ∙ lower) in
        let p : AtMost r.0 a = r.2 in
        (omega arith, λ e. omega arith)))
    go false higher = rw higher (λ room a r. r)

-- the slot waits with the label of a step that leads there, which is less than any before
pub record Fell (l : Label) (ss : List Step) (slots : List Slot) (q : ℕ) (v : Slot) : Type 0 where
  pub step : Step
  pub among : Contains ss step
  pub leads : step.to ≡ q
  pub now : v ≡ Waiting (after 1 l step)
  pub less : (k : Label) → label_at slots q ≡ Some k → Below (after 1 l step) k

-- a room's slot is unchanged, or its label fell
pub offers-slot : (l : Label) (ss : List Step) (slots : List Slot)
    → ((s : Step) → Contains ss s → s.to < length slots) → (q : ℕ)
    → (slot_at (offers l ss slots) q ≡ slot_at slots q) ⊎ Fell l ss slots q (slot_at (offers l ss slots) q)
offers-slot l [] slots inside q = inl refl
offers-slot l (s ∷ ss) slots inside q =
    elim (offers-slot l ss (offer l s slots) (λ t c. rw (offered-length l s slots) (inside t (there s ss t c))) q) [
      | inl same ↦
          elim (offered-slot l s slots (inside s (here s ss)) q) [
            | inl before ↦ inl (same ∙ before)
            | inr it ↦ inr (record { step = s; among = here s ss; leads = it.0; now = same ∙ it.1; less = it.2 })
          ]
      | inr f ↦ inr (record {
        step = f.step;
        among = there s ss f.step f.among;
        leads = f.leads;
        now = f.now;
        less = λ k e.
            let r = falls-offered l s slots (inside s (here s ss)) q k (k, e, (omega arith, λ x. omega arith)) in
            below-trans (after 1 l f.step) r.0 k (f.less r.0 r.1) r.2;
      })
    ]
  where
    offered-length : (l : Label) (s : Step) (slots : List Slot) → length (offer l s slots) ≡ length slots
    offered-length l s slots = go (falls (after 1 l s) (label_at slots s.to)) refl
      where
        go : (b : Bool) → falls (after 1 l s) (label_at slots s.to) ≡ b → length (offer l s slots) ≡ length slots
        go true e = rw e (length-set slots s.to (Waiting (after 1 l s)))
        go false e = rw e refl

    offered-slot : (l : Label) (s : Step) (slots : List Slot) → s.to < length slots → (q : ℕ)
        → (slot_at (offer l s slots) q ≡ slot_at slots q)
        ⊎ ((s.to ≡ q) × (slot_at (offer l s slots) q ≡ Waiting (after 1 l s))
        × ((k : Label) → label_at slots q ≡ Some k → Below (after 1 l s) k))
    offered-slot l s slots within q = go (falls (after 1 l s) (label_at slots s.to)) refl
      where
        go : (b : Bool) → falls (after 1 l s) (label_at slots s.to) ≡ b
            → (slot_at (offer l s slots) q ≡ slot_at slots q)
            ⊎ ((s.to ≡ q) × (slot_at (offer l s slots) q ≡ Waiting (after 1 l s))
            × ((k : Label) → label_at slots q ≡ Some k → Below (after 1 l s) k))
        go true e =
            elim (cases_eq q s.to) [
              | inl same ↦
                  inr (
                    sym same,
                    rw (e, same) (get_or-set_same slots s.to (Waiting (after 1 l s)) Unknown within),
                    λ k is. below-from_test (after 1 l s) k
                        (sym (ap (falls (after 1 l s)) (ap (label_at slots) (sym same) ∙ is)) ∙ e),
                  )
              | inr other ↦ inl (rw e (get_or-set_other slots s.to q (Waiting (after 1 l s)) Unknown other))
            ]
        go false e = inl (rw e refl)
